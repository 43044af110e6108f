use Rattle.fidl_wire.specs.Term.{resolve}
use Rattle.fidl_wire.specs.Text.{text_of}
use Rattle.fidl_spelling.specs.Spells.{Spelled}
use Rattle.fidl_spelling.specs.Readable.{AreNamesDistinct}
use Rattle.fidl_spelling.proofs.Reading.{whole}
use Rattle.fidl_spelling.proofs.Readable.{readable_resolve}
use Rattle.fidl_spelling.proofs.Texts.{spells}
use Rattle.fidl_spelling.proofs.laws.texts_spell_words.Goals as goal

pub returns : goal.returns
returns c ds ready t g v h =
    let u = resolve ds.terms t in
    whole (Spelled ds u v) (text_of ds u v) (spells ds ready u v (readable_resolve AreNamesDistinct ds.terms t ready g) h)
