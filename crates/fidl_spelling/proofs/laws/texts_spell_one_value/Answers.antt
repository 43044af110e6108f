use Rattle.std.proofs.Common.{[], refl, subst}
use Rattle.fidl_wire.specs.Term.{resolve}
use Rattle.fidl_spelling.specs.Spells.{Spelled}
use Rattle.fidl_spelling.specs.Readable.{AnyNames}
use Rattle.fidl_spelling.proofs.Readable.{readable_resolve}
use Rattle.fidl_spelling.proofs.WordLaws.{words_same}
use Rattle.fidl_spelling.proofs.Single.{only}
use Rattle.fidl_spelling.proofs.laws.texts_spell_one_value.Goals as goal

pub returns : goal.returns
returns c ds ready t g v w source h k =
    let u = resolve ds.terms t in
    let same = words_same source source k.1.0 h.1.0 refl k.1.1 h.1.1 in
    (only AnyNames ds ready u v w (readable_resolve AnyNames ds.terms t ready g) h.1.0 [] [] h.1.2 (subst (λ ws. Spelled ds u w ws []) same k.1.2)).0
