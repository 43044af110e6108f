use Rattle.std.proofs.Common.{◌∙◌}
use Rattle.fidl_named.proofs.NumbersOfNames.{numbers_find}
use Rattle.fidl_named.proofs.member_numbers.find_number.Goals as goal

pub returns : goal.returns
returns c = λ names h. c.copied.ensures ∙ c.get.ensures.value ∙ numbers_find c.args.numbers.now.entries names c.args.name.now h
