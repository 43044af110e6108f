use Rattle.std.proofs.Common.{refl, arith, length, map, ◌<◌, ◌≤◌, ap, []}
use Rattle.std.proofs.lemmas.Bool.{false≢true}
use Rattle.fidl_parse.proofs.Files.{file_ahead, nothing_ahead, file_start, item_ahead, item_may, import_item, declaration_item, told}
use Rattle.fidl_parse.proofs.Stops.{stops}
use Rattle.fidl_tree.specs.Leaf.{joined}
use Rattle.fidl_tree.specs.File.{library_leaves, import_leaves}
use Rattle.fidl_parse.proofs.FileParts.{import_push, declaration_push}
use Rattle.fidl_parse.proofs.parser.Parser.file.Goals as goal

pub returns-in_err-library-clause-complete : goal.returns-in_err-library-clause-complete
returns-in_err-library-clause-complete c x rest m a =
    let a0 = file_ahead _ _ x rest m a in
    let h = c.in_err-library.ensures.complete x.library _ tt a0 in
    stops _ _ _ _ c.from_residual.ensures (λ x g. g) h

pub loop-at-init : goal.loop-at-init
loop-at-init c = record {
  reads = file_start _ _ _ (library_leaves c.in_ok-library.library) _ _ c.new-imports.ensures.items c.new-declarations.ensures.items c.in_ok-library.ensures.reads;
  left = λ x rest m a. (x.imports.items, x.declarations.items, c.in_ok-library.ensures.complete x.library _ tt (file_ahead _ _ x rest m a), λ n. absurd (n (ap length c.new-declarations.ensures.items)));
}

pub returns-in_err-attributes-clause-complete : goal.returns-in_err-attributes-clause-complete
returns-in_err-attributes-clause-complete c x rest m a =
    let f = c.loop-at.invariant.left x rest m a in
    let here : c.loop-at.at < length c.args.self.now.words.now = omega arith in
    let it = item_ahead _ _ f.0 f.1 here f.2 in
    let h = c.in_err-attributes.ensures.complete it.attributes _ (item_may it.item) it.ahead in
    stops _ _ _ _ c.from_residual-in_err-attributes.ensures (λ x g. g) h

pub returns-in_err-import-clause-complete : goal.returns-in_err-import-clause-complete
returns-in_err-import-clause-complete c x rest m a =
    let f = c.loop-at.invariant.left x rest m a in
    let here : c.loop-at.at < length c.args.self.now.words.now = omega arith in
    let it = item_ahead _ _ f.0 f.1 here f.2 in
    let b1 = c.in_ok-attributes.ensures.complete it.attributes _ (item_may it.item) it.ahead in
    let u = import_item _ _ it.item (c.begins_import.ensures.0 c.if-begins_import.true).1 b1 in
    let h = c.in_err-import.ensures.complete u.0 _ tt u.3 in
    stops _ _ _ _ c.from_residual-in_err-import.ensures (λ x g. g) h

pub returns-in_err-declaration-clause-complete : goal.returns-in_err-declaration-clause-complete
returns-in_err-declaration-clause-complete c x rest m a =
    let f = c.loop-at.invariant.left x rest m a in
    let here : c.loop-at.at < length c.args.self.now.words.now = omega arith in
    let it = item_ahead _ _ f.0 f.1 here f.2 in
    let b1 = c.in_ok-attributes.ensures.complete it.attributes _ (item_may it.item) it.ahead in
    let n = told (length c.loop-at.declarations.items) (λ e. false≢true (c.if-begins_import.ensures.1 e)) (λ some. it.only (f.3 some)) in
    let v = declaration_item _ _ it.item n b1 in
    let h = c.in_err-declaration.ensures.complete v.0 _ tt v.2 in
    stops _ _ _ _ c.from_residual-in_err-declaration.ensures (λ x g. g) h

pub loop-at-preserved-in_ok-push : goal.loop-at-preserved-in_ok-push
loop-at-preserved-in_ok-push c =
    let none = (c.begins_import.ensures.0 c.if-begins_import.true).0 in
    record {
      reads = rw c.in_ok-push.ensures.items (import_push _ _ _ _ (library_leaves c.in_ok-library.library) c.loop-at.imports.items c.in_ok-import.field-0 c.loop-at.declarations.items none c.loop-at.invariant.reads
          (c.in_ok-import.ensures.reads _ c.in_ok-attributes.ensures.reads));
      left = λ x rest m a.
          let f = c.loop-at.invariant.left x rest m a in
          let here : c.loop-at.at < length c.args.self.now.words.now = omega arith in
          let it = item_ahead _ _ f.0 f.1 here f.2 in
          let b1 = c.in_ok-attributes.ensures.complete it.attributes _ (item_may it.item) it.ahead in
          let u = import_item _ _ it.item (c.begins_import.ensures.0 c.if-begins_import.true).1 b1 in
          (u.1, u.2, c.in_ok-import.ensures.complete u.0 _ tt u.3, λ some. absurd (some none));
    }

pub loop-at-preserved : goal.loop-at-preserved
loop-at-preserved c =
    record {
      reads = rw c.in_ok-push-2.ensures.items (declaration_push _ _ _ _ (library_leaves c.in_ok-library.library) (joined (map import_leaves c.loop-at.imports.items)) c.loop-at.declarations.items c.in_ok-declaration.field-0 c.loop-at.invariant.reads
          (c.in_ok-declaration.ensures.reads _ c.in_ok-attributes.ensures.reads));
      left = λ x rest m a.
          let f = c.loop-at.invariant.left x rest m a in
          let here : c.loop-at.at < length c.args.self.now.words.now = omega arith in
          let it = item_ahead _ _ f.0 f.1 here f.2 in
          let b1 = c.in_ok-attributes.ensures.complete it.attributes _ (item_may it.item) it.ahead in
          let n = told (length c.loop-at.declarations.items) (λ e. false≢true (c.if-begins_import.ensures.1 e)) (λ some. it.only (f.3 some)) in
          let v = declaration_item _ _ it.item n b1 in
          ([], v.1, c.in_ok-declaration.ensures.complete v.0 _ tt v.2, λ some. refl);
    }

pub returns-clause-reads : goal.returns-clause-reads
returns-clause-reads c =
    c.loop-at.invariant.reads

pub returns-clause-complete : goal.returns-clause-complete
returns-clause-complete c x rest m a =
    let past : length c.args.self.now.words.now ≤ c.loop-at.at = omega arith in
    nothing_ahead _ _ rest m past
