use Rattle.fidl_protocol.proofs.worked.methods_that_differ.Goals as goal

pub returns-clause-none : goal.returns-clause-none
returns-clause-none c = λ files p none. record {
  names = λ one other h k same. absurd (none one h);
  ordinals = λ one other h k same. absurd (none one h);
}

pub returns-clause-name : goal.returns-clause-name
returns-clause-name c = λ files p one other h k differ same all. differ (all.names one other h k same)

pub returns-clause-ordinal : goal.returns-clause-ordinal
returns-clause-ordinal c = λ files p one other h k differ same all. differ (all.ordinals one other h k same)
