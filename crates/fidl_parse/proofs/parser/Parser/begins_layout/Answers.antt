use Rattle.std.proofs.Common.{◌≡◌, None, Some, rules, length, slice_get, refl}
use Rattle.std.proofs.lemmas.Option.{slice_get_read, slice_get_past}
use Rattle.fidl_span.specs.declared.words.WordKind.TheVariants as kind
use Rattle.fidl_parse.proofs.LayoutWords.{layout_word, other_word, no_word}
use Rattle.fidl_parse.proofs.parser.Parser.begins_layout.Goals as goal

pub returns-then-eq : goal.returns-then-eq
returns-then-eq c =
    let g : slice_get c.args.self.now.words.now c.args.at ≡ Some c.in-Some.word.now =
    slice_get_read c.args.self.now.words.now (length c.args.self.now.words.now) c.args.at c.in-Some.word.now refl c.in-Some.ensures.lookup.3.0 c.in-Some.ensures.lookup.1 in
    let k : c.in-Some.word.now.kind ≡ kind.Identifier = search rules in
    layout_word c.args.self.now c.args.at c.in-Some.word.now c.is_next.result c.is_layout_word.result c.if-is_next.false c.is_next.ensures.next.1 g k c.is_layout_word.ensures

pub returns-else-eq : goal.returns-else-eq
returns-else-eq c =
    let g : slice_get c.args.self.now.words.now c.args.at ≡ Some c.in-Some.word.now =
    slice_get_read c.args.self.now.words.now (length c.args.self.now.words.now) c.args.at c.in-Some.word.now refl c.in-Some.ensures.lookup.3.0 c.in-Some.ensures.lookup.1 in
    let n : c.in-Some.word.now.kind ≡ kind.Identifier → ⊥ = search rules in
    other_word c.args.self.now c.args.at c.in-Some.word.now c.is_next.result c.eq.result c.if-is_next.false c.is_next.ensures.next.1 g n c.if-eq.false

pub returns-in-None : goal.returns-in-None
returns-in-None c =
    let g : slice_get c.args.self.now.words.now c.args.at ≡ None = slice_get_past c.args.self.now.words.now c.args.at c.in-None.ensures.lookup.3 in
    no_word c.args.self.now c.args.at c.is_next.result c.if-is_next.false c.is_next.ensures.next.1 g
