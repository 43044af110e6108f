-- What follows of an entry from its kind.
use Rattle.std.proofs.Common.{◌≡◌, ℕ, List, Bool, false, IsTrue, sym, ap, ◌∙◌, if◌then◌else◌}
use Rattle.std.specs.Option.{option_map_or}
use Rattle.fidl_wire.specs.Figure.{figure_of}
use Rattle.fidl_wire.specs.Term.{nothing}
use Rattle.fidl_table_format.specs.declared.record.Header.{Header}
use Rattle.fidl_table_format.specs.declared.record.Entry.{Entry}
use Rattle.fidl_table_format.specs.declared.kind.EntryKind.{EntryKind}
use Rattle.fidl_table_format.specs.Terms.{term_as}
use Rattle.fidl_table_format.specs.Entry.{IsOf, kind_is, Follows, parts_of, figures_of, entry_figure}

-- a test of the kind of an entry
pub test_of : (test : EntryKind → Bool) (k : EntryKind) (e : Entry) → IsOf k e → kind_is test e ≡ test k
test_of test k e is = ap (λ o. option_map_or test o false) is

-- the figure of an entry's type, by its kind
pub figure_as : (bytes : List ℕ) (h : Header) (k : EntryKind) (e : Entry) → IsOf k e → entry_figure bytes h e ≡ figure_of (figures_of bytes h) (term_as k bytes h e)
figure_as bytes h k e is = ap (λ o. figure_of (figures_of bytes h) (option_map_or (λ k. term_as k bytes h e) o nothing)) is

-- a test of the kind answers what the test of the entry does
pub same_test : (test : EntryKind → Bool) (k : EntryKind) (e : Entry) (answer : Bool) → IsOf k e → answer ≡ test k → answer ≡ kind_is test e
same_test test k e answer is a = a ∙ sym (test_of test k e is)

-- rows or values that do not follow those before, as the test of the kind says
pub unfollowed : (uses : EntryKind → Bool) (k : EntryKind) (e : Entry) (used : Bool) (before n : ℕ) → IsOf k e → used ≡ uses k → before ≡ n
    → ((IsTrue used → e.first ≡ before) → ⊥) → Follows uses n e → ⊥
unfollowed uses k e used before n is u same not f = not (λ t. f (sym (same_test uses k e used is u) ∙ t) ∙ sym same)

-- how many rows or values an entry of a kind that has them has
pub parts_used : (uses : EntryKind → Bool) (e : Entry) → IsTrue (kind_is uses e) → parts_of uses e ≡ e.count
parts_used uses e used = ap (λ b. if b then e.count else 0) used
