-- The frame of a reply, written part after part over the front of a buffer.
use Rattle.std.proofs.Common.{◌≡◌, ℕ, ◌+◌, ◌++◌, Bool, List, [], length, ap, ◌∙◌}
use mathlib.Core.List.{append_assoc}
use Rattle.std.specs.List.{flat_map}
use Rattle.std.specs.Int.{w32, to_le_bytes}
use Rattle.fidl_header.specs.Header.{header_bytes}
use Rattle.fidl_header.specs.declared.header.Header.{Header}
use Rattle.fidl_wire.specs.declared.handle.HandleInfo.{HandleInfo}
use Rattle.fidl_script.specs.Script.{Body}
use Rattle.fidl_serve.specs.Replying.{handle_bytes, frame_of}

-- three parts one after another
pub three : (front a b c x y z one two all : List ℕ) → one ≡ front ++ x → x ≡ a → two ≡ one ++ y → y ≡ b → all ≡ two ++ z → z ≡ c → all ≡ front ++ (a ++ (b ++ c))
three front a b c x y z one two all e ex f fy g gz =
    let one_is : one ≡ front ++ a = e ∙ ap (λ (l : List ℕ). front ++ l) ex in
    let two_is : two ≡ (front ++ a) ++ b = f ∙ ap (λ (l : List ℕ). one ++ l) fy ∙ ap (λ (l : List ℕ). l ++ b) one_is in
    g ∙ ap (λ (l : List ℕ). two ++ l) gz ∙ ap (λ (l : List ℕ). l ++ c) two_is
    ∙ append_assoc (front ++ a) b c
    ∙ append_assoc front a (b ++ c)

-- the counts, the header, the bytes and the handles make the frame
made : (h : Header) (b : Body) (counts handles head body all : List ℕ) → counts ≡ to_le_bytes w32 (16 + length b.bytes) → handles ≡ counts ++ to_le_bytes w32 (length b.handles) → head ≡ handles ++ header_bytes h → body ≡ head ++ b.bytes
    → all ≡ body ++ flat_map handle_bytes b.handles → all ≡ frame_of h b
unfolding frame_of
made h b counts handles head body all e f g i j =
    j ∙ ap (λ (l : List ℕ). l ++ flat_map handle_bytes b.handles) (i ∙ ap (λ (l : List ℕ). l ++ b.bytes) g)
    ∙ append_assoc (handles ++ header_bytes h) b.bytes (flat_map handle_bytes b.handles)
    ∙ append_assoc handles (header_bytes h) (b.bytes ++ flat_map handle_bytes b.handles)
    ∙ ap (λ (l : List ℕ). l ++ (header_bytes h ++ (b.bytes ++ flat_map handle_bytes b.handles))) f
    ∙ append_assoc counts (to_le_bytes w32 (length b.handles)) (header_bytes h ++ (b.bytes ++ flat_map handle_bytes b.handles))
    ∙ ap (λ (l : List ℕ). l ++ (to_le_bytes w32 (length b.handles) ++ (header_bytes h ++ (b.bytes ++ flat_map handle_bytes b.handles)))) e

pub composed : (h : Header) (b : Body) (counts handles head body all x y z : List ℕ) → counts ≡ [] ++ x → x ≡ to_le_bytes w32 (16 + length b.bytes) → handles ≡ counts ++ y → y ≡ to_le_bytes w32 (length b.handles) → head ≡ handles ++ z → z ≡ header_bytes h
    → body ≡ head ++ b.bytes → all ≡ body ++ flat_map handle_bytes b.handles → all ≡ frame_of h b
composed h b counts handles head body all x y z e ex f fy g gz i j =
    made h b counts handles head body all (e ∙ ex) (f ∙ ap (λ (l : List ℕ). counts ++ l) fy) (g ∙ ap (λ (l : List ℕ). handles ++ l) gz) i j

-- the same frame by equal parts
pub frame_same : (all : List ℕ) (txid : ℕ) (f g : Bool) (o q : ℕ) (b c : Body) → all ≡ frame_of (record { txid = txid; flexible = f; ordinal = o }) b → f ≡ g → o ≡ q → b ≡ c → all ≡ frame_of (record { txid = txid; flexible = g; ordinal = q }) c
frame_same all txid f g o q b c e ef eo eb = e ∙ (λ i. frame_of (record { txid = txid; flexible = ef i; ordinal = eo i }) (eb i))

pub body_same : (xs ys : List ℕ) (hs ks : List HandleInfo) → xs ≡ ys → hs ≡ ks → ◌≡◌ {A = Body} (record { bytes = xs; handles = hs }) (record { bytes = ys; handles = ks })
body_same xs ys hs ks e f = λ i. record { bytes = e i; handles = f i }
