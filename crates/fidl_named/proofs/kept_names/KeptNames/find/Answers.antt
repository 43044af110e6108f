use Rattle.std.proofs.Common.{◌≡◌, ◌<◌, ℕ, List, Some, length, refl, sym, subst}
use Rattle.std.specs.Prelude.{slice_get}
use Rattle.std.proofs.lemmas.Option.{slice_get_read}
use Rattle.fidl_named.specs.declared.kept_names.KeptName.{KeptName}
use Rattle.fidl_named.specs.declared.meaning.Wanted.{Wanted}
use Rattle.fidl_named.specs.Meanings.{components, Means}
use Rattle.std.proofs.lemmas.Bool.{ltb-true}
use Rattle.fidl_named.proofs.KeptMeanings.{kept_at}
use Rattle.fidl_named.proofs.kept_names.KeptNames.find.Goals as goal

pub returns-then-same_path : goal.returns-then-same_path
returns-then-same_path c = λ files f h.
    let names = c.args.self.now.names.items in
    let k = c.in_ok-name.name.now in
    let i = c.in_ok-number.field-0.now in
    let read = c.deref-2.result.now in
    let look = c.in_ok-name.ensures.lookup in
    let within : i < length read = ltb-true i (length read) (sym look.0) in
    let there : slice_get read i ≡ Some k = slice_get_read read (length read) i k refl within look.1 in
    let at : slice_get names i ≡ Some k = subst (λ (l : List KeptName). slice_get l i ≡ Some k) c.deref-2.ensures.value there in
    let wanted : k.wanted ≡ c.args.wanted = c.same_kind.ensures c.if-same_kind.true in
    let means = kept_at files f names i k h at in
    let same = c.same_path.ensures c.if-same_path.true f.src.now in
    subst (λ (w : Wanted). Means files f w (components f.src.now c.args.path.now) k.meaning) wanted
    (subst (λ (t : List (List ℕ)). Means files f k.wanted t k.meaning) same means)
