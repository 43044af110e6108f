use Rattle.std.proofs.Common.{rules, arith, refl, below_none, below_more}
use Rattle.fidl_table_format.proofs.worked.below.tables_with_vectors_and_boxes.Goals as goal

pub returns-clause-vector : goal.returns-clause-vector
returns-clause-vector c = record {
  header = search rules;
  entries = below_more _ 1 (below_more _ 0 (below_none _) (record {
    shape = search rules;
    children = search rules;
    rows = search rules;
    values = search rules;
    offsets = search rules;
    size = search rules;
    nest = search rules;
    sorted = search rules;
    names = search rules;
  })) (record {
    shape = search rules;
    children = search rules;
    rows = search rules;
    values = search rules;
    offsets = search rules;
    size = search rules;
    nest = search rules;
    sorted = search rules;
    names = search rules;
  });
  covered = refl;
  values_covered = refl;
  roots = λ index p. absurd (omega (arith, p));
  protocols = λ index p. absurd (omega (arith, p));
  methods_covered = refl;
  methods = λ index p. absurd (omega (arith, p));
}

pub returns-clause-of_itself : goal.returns-clause-of_itself
returns-clause-of_itself c = record {
  header = search rules;
  entries = below_more _ 1 (below_more _ 0 (below_none _) (record {
    shape = search rules;
    children = search rules;
    rows = search rules;
    values = search rules;
    offsets = search rules;
    size = search rules;
    nest = search rules;
    sorted = search rules;
    names = search rules;
  })) (record {
    shape = search rules;
    children = search rules;
    rows = search rules;
    values = search rules;
    offsets = search rules;
    size = search rules;
    nest = search rules;
    sorted = search rules;
    names = search rules;
  });
  covered = refl;
  values_covered = refl;
  roots = λ index p. absurd (omega (arith, p));
  protocols = λ index p. absurd (omega (arith, p));
  methods_covered = refl;
  methods = λ index p. absurd (omega (arith, p));
}

pub returns-clause-a_box : goal.returns-clause-a_box
returns-clause-a_box c = record {
  header = search rules;
  entries = below_more _ 1 (below_more _ 0 (below_none _) (record {
    shape = search rules;
    children = record { elements = search rules; content = search rules; within = search rules; members = λ is. below_more _ 0 (below_none _) (omega arith); values = search rules };
    rows = search rules;
    values = search rules;
    offsets = search rules;
    size = search rules;
    nest = search rules;
    sorted = record { ordinals = search rules; values = search rules };
    names = record { own = search rules; members = λ is. below_more _ 0 (below_none _) (search rules) };
  })) (record {
    shape = search rules;
    children = search rules;
    rows = search rules;
    values = search rules;
    offsets = search rules;
    size = search rules;
    nest = search rules;
    sorted = search rules;
    names = search rules;
  });
  covered = refl;
  values_covered = refl;
  roots = λ index p. absurd (omega (arith, p));
  protocols = λ index p. absurd (omega (arith, p));
  methods_covered = refl;
  methods = λ index p. absurd (omega (arith, p));
}
