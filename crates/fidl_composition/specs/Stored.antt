-- How protocols and their graph are stored: what their model needs, and nothing of the language.
use Rattle.std.specs.Prelude.{ℕ, List}
use Rattle.std.specs.Coded.{Coded, coded_list, coded_ℕ, coded×}
use Rattle.fidl_named.specs.contracts.place.DeclarationId as id
use Rattle.fidl_named.specs.declared.place.DeclarationId.{DeclarationId}

abbrev pub compositions_coded : Coded (List DeclarationId × List (List ℕ))
compositions_coded = coded× (coded_list id.the_row.coded) (coded_list (coded_list coded_ℕ))
