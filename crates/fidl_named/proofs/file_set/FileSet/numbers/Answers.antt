use Rattle.std.proofs.Common.{◌<◌, sym, subst}
use Rattle.fidl_named.proofs.FileNumbers.{index_within, found_numbers}
use Rattle.fidl_named.proofs.file_set.FileSet.numbers.Goals as goal

pub index-requires : goal.index-requires
index-requires c =
    let r = c.requires in
    let a = c.index-added.result.now in
    let within = index_within c.self.inside.files.items c.args.self.now c.self.view_is c.self.invariant.2 c.args.id a c.index-added.ensures r.file r.declaration (record { file_at = r.file_at; stands = r.stands }) in
    subst (λ n. c.args.id.index < n) (sym a.numbers.ok.0) within

pub returns : goal.returns
returns c = λ f d h.
    found_numbers c.self.inside.files.items c.args.self.now c.self.view_is c.self.invariant.2 c.args.id c.index-added.result.now c.index-added.ensures f d h c.index.result.now c.index.ensures
