use Rattle.std.proofs.Common.{◌≡◌, ◌↔◌, ◌==◌, ◌∙◌, [], ◌∷◌, List, Bool, map, IsTrue, length, ℕ, refl, sym, ap, arith}
use Rattle.std.proofs.lemmas.Bool.Decides.{Decides-eqb}
use Rattle.fidl_tree.specs.Syntax.{members_of}
use Rattle.fidl_tree.specs.Views.{member_view}
use Rattle.fidl_tree.specs.declared.type_constructor.Member.{Member, out-Member}
use Rattle.fidl_tree.specs.declared.type_constructor.LayoutBody.TheFolds.{fold_out-Member}
use Rattle.fidl_named.specs.MemberNames.{own_names}
use Rattle.fidl_member_rules.proofs.strict.are_none.Goals as goal

-- each member has a name
named_more : (m : Member) (ms : List Member) → own_names (members_of (map member_view (m ∷ ms))) ≡ (out-Member m).name ∷ own_names (members_of (map member_view ms))
named_more m ms = rw fold_out-Member

no_names : (ms : List Member) (n : ℕ) (b : Bool) → n ≡ length ms → b ≡ (n == 0) → IsTrue b ↔ own_names (members_of (map member_view ms)) ≡ []
no_names [] n b long is = (λ _. refl, λ _. is ∙ (Decides-eqb n 0).1 long)
no_names (m ∷ ms) n b long is = (λ t. absurd (let k = (Decides-eqb n 0).0 (sym is ∙ t) in omega (arith, k, long)), λ e. absurd (let k = ap length (sym (named_more m ms) ∙ e) in omega (arith, k)))

pub returns : goal.returns
returns c = no_names c.args.members.now (length c.args.members.now) c.is_empty.result refl c.is_empty.ensures
