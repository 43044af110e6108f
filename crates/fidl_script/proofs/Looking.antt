-- The methods of a protocol by their places and names.
use Rattle.std.proofs.Common.{◌≡◌, ◌<◌, ℕ, List, Bool, true, false, refl, sym, ap, subst, ◌∙◌, inl, inr}
use Rattle.std.specs.Prelude.{Option, Some, IfSome}
use Rattle.std.proofs.lemmas.Bool.{cases_order}
use Rattle.fidl_table_format.specs.Section.{header_of}
use Rattle.fidl_table_format.specs.Method.{method_name, method_number}
use Rattle.fidl_verify.specs.Lookups.{TableProtocol, TableMethod, protocol_record, method_record, response_of}
use Rattle.fidl_verify.specs.declared.method.Payload.{Payload}
use Rattle.fidl_script.specs.Lines.{Line}
use Rattle.fidl_script.specs.Phrases.{IsReplyLine}
use Rattle.fidl_script.specs.Script.{Body, method_of, has_both, IsTwoWay}
use Rattle.fidl_script.specs.Text.{Means, GivesBody, IsReply}
use Rattle.fidl_script.specs.Faults.{GivesNoBody}
use Rattle.fidl_script.specs.Named.{name_of_method, HasNoneNamed, IsFirstNamed}

module _ (p : TableProtocol) where
  module _ (place : ℕ) (m : TableMethod) (table : m.table ≡ p.table) (number : m.number ≡ method_number p.table (header_of p.table) p.number place) where
    same_method : m ≡ record { table = p.table; number = method_number p.table (header_of p.table) p.number place }
    same_method = λ i. record { table = table i; number = number i }

    pub same_record : method_record m ≡ method_of p place
    same_record = ap method_record same_method

    pub same_name : method_name m.table (header_of m.table) m.number ≡ name_of_method p place
    same_name = ap (λ (n : TableMethod). method_name n.table (header_of n.table) n.number) same_method

    pub not_two_way : (both : Bool) → both ≡ has_both (method_record m) → both ≡ false → ¬ (IsTwoWay p place)
    not_two_way both value is h = let never : false ≡ true = sym is ∙ value ∙ ap has_both same_record ∙ h.messages in absurd (cc never)

    pub two_way : place < (protocol_record p).methods → (both : Bool) → both ≡ has_both (method_record m) → both ≡ true → IsTwoWay p place
    two_way within both value is = record { within = within; messages = ap has_both (sym same_record) ∙ sym value ∙ is }

  pub named_at : (place : ℕ) (o : Option TableMethod) (m : TableMethod) → o ≡ Some m → IfSome o (λ n. n.table ≡ p.table) → IfSome o (λ n. n.number ≡ method_number p.table (header_of p.table) p.number place)
      → (name : List ℕ) → name ≡ method_name m.table (header_of m.table) m.number → name ≡ name_of_method p place
  named_at place o m is table number name e =
      e ∙ same_name place m (subst (λ (o : Option TableMethod). IfSome o (λ n. n.table ≡ p.table)) is table) (subst (λ (o : Option TableMethod). IfSome o (λ n. n.number ≡ method_number p.table (header_of p.table) p.number place)) is number)

  -- the first method of a name is the one that it means, if that is two-way
  pub means : (name : List ℕ) (place : ℕ) → IsFirstNamed p (protocol_record p).methods name place → IsTwoWay p place → Means p name place
  means name place h way = record { first = record { within = h.within; named = h.named; first = h.first }; two_way = way }

  pub none_means : (name : List ℕ) → HasNoneNamed p (protocol_record p).methods name → (place : ℕ) → ¬ (Means p name place)
  none_means name none place h = none place h.first.within h.first.named

  pub one_way_means : (name : List ℕ) (first : ℕ) → IsFirstNamed p (protocol_record p).methods name first → ¬ (IsTwoWay p first) → (place : ℕ) → ¬ (Means p name place)
  one_way_means name first h one_way place k =
      elim (cases_order place first) [
        | inl same ↦ one_way (subst (IsTwoWay p) same k.two_way)
        | inr (inl less) ↦ h.first place less k.first.named
        | inr (inr more) ↦ k.first.first first more h.named
      ]

-- the words of a line, and the method that they name
module _ (p : TableProtocol) (table : List ℕ) (e : p.table ≡ table) (line : Line) (name : List ℕ) (text : Option (List ℕ)) (reply_line : IsReplyLine line.bytes name text)
    (place : ℕ) (m : TableMethod) (of_table : m.table ≡ p.table) (number : m.number ≡ method_number p.table (header_of p.table) p.number place) (means_it : Means p name place)
    (payload : Payload) (value : payload ≡ response_of (method_record m)) where
  payload_is : payload ≡ response_of (method_of p place)
  payload_is = value ∙ ap response_of (same_record p place m of_table number)

  -- and their body
  pub reply_made : (body : Body) → GivesBody table payload text body → IsReply p line (record { ordinal = (method_of p place).ordinal; body = body })
  reply_made body h = record {
    name = name;
    text = text;
    reply_line = reply_line;
    place = place;
    means = means_it;
    ordinal = refl;
    body = subst (λ (q : Payload). GivesBody p.table q text body) payload_is (subst (λ (b : List ℕ). GivesBody b payload text body) (sym e) h);
  }

  -- or that they give none
  pub no_reply_made : ((body : Body) → ¬ (GivesBody table payload text body)) → GivesNoBody p line
  no_reply_made none = record {
    name = name;
    text = text;
    reply_line = reply_line;
    place = place;
    means = means_it;
    none = λ body h. none body (subst (λ (b : List ℕ). GivesBody b payload text body) e (subst (λ (q : Payload). GivesBody p.table q text body) (sym payload_is) h));
  }
