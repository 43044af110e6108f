-- The protocol of the worked facts.
use Rattle.std.proofs.Common.{ℕ, ◌≤◌, rules, arith, refl, below_none, below_more}
use Rattle.fidl_table_format.specs.Section.{header_of}
use Rattle.fidl_table_format.specs.Method.{IsMethod}
use Rattle.fidl_table_format.specs.WellFormed.{WellFormed}
use Rattle.fidl_verify.specs.Lookups.{IsProtocolOfTable}
use Rattle.fidl_requests.specs.Methods.{IsRequested, IsEvent}
use Rattle.fidl_requests.specs.Samples.{one_protocol, protocol_of}

is_method_0 : (openness : ℕ) → IsMethod (one_protocol openness) (header_of (one_protocol openness)) 0
is_method_0 openness = record { shape = search rules; name = search rules; rises = search rules }

is_method_1 : (openness : ℕ) → IsMethod (one_protocol openness) (header_of (one_protocol openness)) 1
is_method_1 openness = record { shape = search rules; name = search rules; rises = search rules }

is_method_2 : (openness : ℕ) → IsMethod (one_protocol openness) (header_of (one_protocol openness)) 2
is_method_2 openness = record { shape = search rules; name = search rules; rises = search rules }

well_formed : (openness : ℕ) → openness ≤ 2 → WellFormed (one_protocol openness)
well_formed openness le = record {
  header = search rules;
  entries = λ index p. absurd (omega (arith, p));
  covered = refl;
  values_covered = refl;
  roots = λ index p. absurd (omega (arith, p));
  protocols = below_more _ 0 (below_none _) (record { openness = omega (arith, le); name = search rules; rises = search rules; methods = search rules });
  methods_covered = refl;
  methods = below_more _ 2 (below_more _ 1 (below_more _ 0 (below_none _) (is_method_0 openness)) (is_method_1 openness)) (is_method_2 openness);
}

pub sound : (openness : ℕ) → openness ≤ 2 → IsProtocolOfTable (protocol_of openness)
sound openness le = record { well_formed = well_formed openness le; within = omega arith }

pub first : (openness : ℕ) → IsRequested (protocol_of openness) 1 0
first openness = record { place = 0; at = record { within = omega arith; is = refl }; is = refl; request = refl }

pub third : (openness : ℕ) → IsRequested (protocol_of openness) 3 2
third openness = record { place = 2; at = record { within = omega arith; is = refl }; is = refl; request = refl }

pub event : (openness : ℕ) → IsEvent (protocol_of openness) 2
event openness = record { place = 1; at = record { within = omega arith; is = refl }; no_request = refl }
