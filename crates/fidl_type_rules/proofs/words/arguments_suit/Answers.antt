use Rattle.std.proofs.Common.{◌∙◌, ap, sym}
use Rattle.std.specs.Prelude.{option_copied}
use Rattle.fidl_constraints.specs.BehindViews.{arguments_view, use_view}
use Rattle.fidl_type_rules.specs.Words.{ArgumentsSuit}
use Rattle.fidl_type_rules.proofs.Named.{suits_word}
use Rattle.fidl_type_rules.proofs.words.arguments_suit.Goals as goal

pub returns-in_ok-is_word-in-Some : goal.returns-in_ok-is_word-in-Some
returns-in_ok-is_word-in-Some c =
    let given = sym (ap (λ o. arguments_view (option_copied o)) c.in-Some.is) ∙ c.arguments_of.ensures in (
      (λ yes. let w = c.in_ok-is_word-in-Some.ensures.yes yes in ArgumentsSuit.of_word w.0 w.1),
      λ h. let w = suits_word c.args.sources.now.named.now c.args.file_index (use_view c.args.of) c.in-Some._arguments.now given h in c.in_ok-is_word-in-Some.ensures.no w.0 w.1,
    )
