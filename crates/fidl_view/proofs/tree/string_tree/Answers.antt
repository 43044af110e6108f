use Rattle.std.proofs.Common.{◌≡◌, ℕ, List, sym, ap, ◌∙◌}
use Rattle.std.specs.Prelude.{Some}
use Rattle.std.specs.Option.{option_copied}
use Rattle.fidl_wire.specs.Value.{Value, text}
use Rattle.fidl_view.specs.Parts.{string_of}
use Rattle.fidl_view.proofs.Owned.{text_is}
use Rattle.fidl_view.proofs.tree.string_tree.Goals as goal

-- a value with the bytes of a string is that string
text_of : (bytes : List ℕ) (v : Value) → Some bytes ≡ string_of v → text bytes ≡ v
text_of bytes (text own) e = let same : bytes ≡ own = cc in ap text same
text_of bytes _ e = cc

pub returns-in_ok-from_slice-in-Some : goal.returns-in_ok-from_slice-in-Some
returns-in_ok-from_slice-in-Some c ds optional bound v p =
    let copied : c.from_vec.result ≡ c.in-Some.text.now = c.from_vec.ensures ∙ c.in_ok-from_slice-in-Some.ensures.items ∙ c.as_bytes.ensures.value in
    text_is _ ∙ ap text copied ∙ text_of c.in-Some.text.now v (sym (ap option_copied c.in-Some.is) ∙ c.as_str.ensures v p.shown)
