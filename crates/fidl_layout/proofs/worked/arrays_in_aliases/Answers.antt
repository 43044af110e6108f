use Rattle.std.proofs.Common.{rules, [], arith, refl, subst}
use Rattle.std.proofs.lemmas.Option.{none-some}
use Rattle.fidl_tree.specs.Views.{file_view}
use Rattle.fidl_declarations.specs.Sites.{type_site, aliased_type, file_sites}
use Rattle.fidl_lower_types.proofs.OneTerm.{one_term}
use Rattle.fidl_type_shape.specs.declared.fault.Excess.TheVariants as excess
use Rattle.fidl_type_shape.specs.Limits.{TypeFits}
use Rattle.fidl_type_shape.specs.Samples.{bytes, arrays}
use Rattle.fidl_type_shape.specs.Faults.{HoldsExcess}
use Rattle.fidl_type_shape.proofs.Nests.{itself}
use Rattle.fidl_type_shape.proofs.Excluded.{fits_not}
use Rattle.fidl_types.proofs.Made.{all_among}
use Rattle.fidl_layout.specs.Uses.{SiteFits}
use Rattle.fidl_layout.proofs.worked.arrays_in_aliases.Goals as goal

large : HoldsExcess [] (bytes 65536) excess.Size
large = record { part = bytes 65536; among = itself (bytes 65536); own = tt; beyond = omega arith }

deep : HoldsExcess [] (arrays 33) excess.Nest
deep = record { part = arrays 33; among = itself (arrays 33); own = tt; beyond = omega arith }

small : TypeFits [] (bytes 65535)
small = search rules

shallow : TypeFits [] (arrays 32)
shallow = search rules

pub returns-clause-last : goal.returns-clause-last
returns-clause-last c = λ files number t is other other_is. subst (TypeFits []) (one_term files number t (bytes 65535) other is other_is) small

pub returns-clause-last_deep : goal.returns-clause-last_deep
returns-clause-last_deep c = λ files number t is other other_is. subst (TypeFits []) (one_term files number t (arrays 32) other is other_is) shallow

pub returns-clause-past : goal.returns-clause-past
returns-clause-past c = λ files number t at is fits.
    let site = all_among (SiteFits files [] number) (file_sites (file_view at.f)) (type_site aliased_type t) (fits number at.f at.file_at) at.among in
    fits_not [] (bytes 65536) excess.Size large (site t refl (bytes 65536) is)

pub returns-clause-large : goal.returns-clause-large
returns-clause-large c = λ files place t definitions at span is. record {
  declarations = record { terms = []; figures = [] };
  definitions = definitions;
  laid_out = refl;
  written = t;
  is = record { site = type_site aliased_type t; at = at; is = refl };
  reported = span;
  term = bytes 65536;
  term_is = is;
  exceeds = large;
}

pub returns-clause-deep : goal.returns-clause-deep
returns-clause-deep c = λ files place t definitions at span is. record {
  declarations = record { terms = []; figures = [] };
  definitions = definitions;
  laid_out = refl;
  written = t;
  is = record { site = type_site aliased_type t; at = at; is = refl };
  reported = span;
  term = arrays 33;
  term_is = is;
  exceeds = deep;
}

pub returns-clause-none : goal.returns-clause-none
returns-clause-none c = λ excess place h. none-some h.is.at.f h.is.at.file_at
