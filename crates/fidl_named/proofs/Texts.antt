-- The text of a path, component by component.
use Rattle.std.proofs.Common.{◌≡◌, ℕ, ◌+◌, ◌<◌, List, [], ◌∷◌, ◌++◌, length, get_or, take, ap, sym, ◌∙◌}
use Rattle.std.specs.Prelude.{flat_map, codes}
use Rattle.std.proofs.lemmas.List.{take_more, append-nil, append_assoc}
use Rattle.std.proofs.lemmas.Grind.{flat_map-append}
use Rattle.fidl_tree.specs.Leaf.{text_at}
use Rattle.fidl_tree.specs.declared.path.PathPart.{PathPart}
use Rattle.fidl_named.specs.Names.{part_text}

-- a part for where there is none
abbrev pub no_part : PathPart
no_part = record { dot = record { from = 0; to = 0 }; name = record { from = 0; to = 0 } }

module _ (src : List ℕ) (ps : List PathPart) (i : ℕ) (d : PathPart) (lt : i < length ps) where
  one_more : flat_map (part_text src) (take (i + 1) ps) ≡ flat_map (part_text src) (take i ps) ++ part_text src (get_or ps i d)
  one_more =
      ap (flat_map (part_text src)) (take_more ps i d lt)
      ∙ flat_map-append (part_text src) (take i ps) (get_or ps i d ∷ [])
      ∙ ap (λ l. flat_map (part_text src) (take i ps) ++ l) (append-nil (part_text src (get_or ps i d)))

  -- with a dot and the name after it, the text goes one component further
  pub grown : (first text dotted new name : List ℕ) → text ≡ first ++ flat_map (part_text src) (take i ps) → dotted ≡ text ++ codes "." → name ≡ text_at src (get_or ps i d).name → new ≡ dotted ++ name → new ≡ first ++ flat_map (part_text src) (take (i + 1) ps)
  grown first text dotted new name is dot named all =
      let part : codes "." ++ name ≡ part_text src (get_or ps i d) = ap (λ l. codes "." ++ l) named in
      all
      ∙ ap (λ l. l ++ name) dot
      ∙ ap (λ l. (l ++ codes ".") ++ name) is
      ∙ append_assoc (first ++ flat_map (part_text src) (take i ps)) (codes ".") name
      ∙ append_assoc first (flat_map (part_text src) (take i ps)) (codes "." ++ name)
      ∙ ap (λ l. first ++ (flat_map (part_text src) (take i ps) ++ l)) part
      ∙ ap (λ l. first ++ l) (sym one_more)
