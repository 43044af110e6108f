-- The texts of handles, read one after another.
use Rattle.std.proofs.Common.{◌≡◌, ℕ, ◌+◌, ◌<◌, List, [], ◌∷◌, ◌++◌, length, get_or, take, map, Bor, sym, ap, subst, ◌∙◌, arith}
use Rattle.std.specs.List.{AllZip}
use Rattle.std.specs.Prelude.{Some}
use Rattle.std.proofs.lemmas.List.{take_more, map-append, get_or-map, length-map, length-take-le}
use Rattle.std.proofs.lemmas.Option.{slice_get-get_or}
use Rattle.fidl_wire.specs.declared.handle.HandleInfo.{HandleInfo}
use Rattle.std.proofs.lemmas.Slice.Zip.{AllZip-long}
use Rattle.fidl_command_line.specs.declared.unread.Unread.{Unread}
use Rattle.fidl_command_line.specs.declared.unread.Unread.TheVariants as unread
use Rattle.fidl_command_line.specs.Handles.{IsHandleText}
use Rattle.fidl_command_line.specs.Arguments.{IsHandleRefusal, AreNoHandles}

zip_push : {A B : Type 0} (C : A → B → Type 0) (xs : List A) (ys : List B) (x : A) (y : B) → AllZip C xs ys → C x y → AllZip C (xs ++ x ∷ []) (ys ++ y ∷ [])
zip_push C [] [] x y h c = (c, tt)
zip_push C [] (b ∷ ys) x y h c = absurd h
zip_push C (a ∷ xs) [] x y h c = absurd h
zip_push C (a ∷ xs) (b ∷ ys) x y h c = (h.0, zip_push C xs ys x y h.1 c)

abbrev now : Bor (List ℕ) → List ℕ
now text = text.now

module _ (texts : List (Bor (List ℕ))) (at : ℕ) (d : Bor (List ℕ)) (lt : at < length texts) where
  -- one text more is that of one handle more
  pub one_more : (old new : List HandleInfo) (h : HandleInfo) → AllZip IsHandleText (map now (take at texts)) old → IsHandleText (get_or texts at d).now h → new ≡ old ++ h ∷ []
      → AllZip IsHandleText (map now (take (at + 1) texts)) new
  one_more old new h so one e =
      let grown = ap (map now) (take_more texts at d lt) ∙ map-append now (take at texts) (get_or texts at d ∷ []) in
      subst (AllZip IsHandleText (map now (take (at + 1) texts))) (sym e)
      (subst (λ (l : List (List ℕ)). AllZip IsHandleText l (old ++ h ∷ [])) (sym grown) (zip_push IsHandleText (map now (take at texts)) old (get_or texts at d).now h so one))

  -- as many handles as texts so far
  so_many : (old : List HandleInfo) → AllZip IsHandleText (map now (take at texts)) old → length old ≡ at
  so_many old so =
      let zipped = AllZip-long IsHandleText (map now (take at texts)) old so in
      let mapped = length-map (take at texts) now in
      let taken : length (take at texts) ≡ at = length-take-le at texts (omega (arith, lt)) in
      zipped ∙ mapped ∙ taken

  -- the next text is no handle's
  pub refused_handle : (old : List HandleInfo) (u : Unread) (number : ℕ) → AllZip IsHandleText (map now (take at texts)) old → ((h : HandleInfo) → ¬ IsHandleText (get_or texts at d).now h)
      → number ≡ length old + 1 → IsHandleRefusal number u → AreNoHandles (map now texts) u
  refused_handle old u number so none e h = refusal u (subst (λ n. IsHandleRefusal n u) (e ∙ ap (λ n. n + 1) (so_many old so)) h)
    where
      refusal : (u : Unread) → IsHandleRefusal (at + 1) u → AreNoHandles (map now texts) u
      refusal (unread.BadHandle line) h = record {
        at = at;
        text = (get_or texts at d).now;
        given = slice_get-get_or (map now texts) at [] (subst (λ n. at < n) (sym (length-map texts now)) lt) ∙ ap Some (get_or-map now texts at d [] lt);
        no_handle = none;
        line_is = h;
      }
      refusal unread.Memory h = tt
      refusal (unread.Asked text) h = absurd h
      refusal (unread.Wrong line) h = absurd h
      refusal unread.NotText h = absurd h
      refusal unread.Missing h = absurd h
      refusal unread.BadHex h = absurd h
      refusal unread.OutIsSource h = absurd h
      refusal unread.OutIsTable h = absurd h
      refusal unread.BadRaw h = absurd h
      refusal unread.TwoLists h = absurd h
      refusal unread.BadFault h = absurd h
