use Rattle.std.proofs.Common.{◌<◌, length, refl, arith}
use Rattle.std.proofs.lemmas.Option.{slice_get_read}
use Rattle.fidl_named.proofs.FileNumbers.{file_there}
use Rattle.fidl_named.proofs.file_set.FileSet.get.Goals as goal

pub numbers-requires : goal.numbers-requires
numbers-requires c =
    let p = c.args.id in
    let a = c.index.result.now in
    let ds = a.file.now.declarations.items in
    let first = c.if-id-len.false in
    let second = c.if-id-len-2.false in
    let lt : p.file < length c.self.inside.files.items = omega (arith, first, c.len.ensures, c.self.inside.files.ok.0) in
    let below : p.index < length ds = omega (arith, second, c.len-2.ensures, a.file.now.declarations.ok.0) in
    record {
      file = a.file.now;
      declaration = c.index-2.result.now;
      file_at = file_there c.self.inside.files.items c.args.self.now c.self.view_is c.self.invariant.2 p a c.index.ensures lt;
      stands = slice_get_read ds (length ds) p.index c.index-2.result.now refl below c.index-2.ensures;
    }

pub returns-clause-found : goal.returns-clause-found
returns-clause-found c =
    let p = c.args.id in
    let a = c.index.result.now in
    let ds = a.file.now.declarations.items in
    let first = c.if-id-len.false in
    let second = c.if-id-len-2.false in
    let lt : p.file < length c.self.inside.files.items = omega (arith, first, c.len.ensures, c.self.inside.files.ok.0) in
    let below : p.index < length ds = omega (arith, second, c.len-2.ensures, a.file.now.declarations.ok.0) in (
      refl,
      record {
        file_at = file_there c.self.inside.files.items c.args.self.now c.self.view_is c.self.invariant.2 p a c.index.ensures lt;
        stands = slice_get_read ds (length ds) p.index c.index-2.result.now refl below c.index-2.ensures;
      },
    )

pub returns-clause-numbers : goal.returns-clause-numbers
returns-clause-numbers c =
    c.numbers.ensures c.index.result.now.file.now c.index-2.result.now (returns-clause-found c).1
