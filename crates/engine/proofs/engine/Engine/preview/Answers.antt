use Rattle.std.proofs.Common.{◌≡◌, Some, rules}
use Rattle.rules.specs.Rules.{rule_tree}
use Rattle.drafts.specs.States.{state_of}
use Rattle.engine.specs.Moments.{open_draft}
use Rattle.engine.specs.Views.{moment}
use Rattle.engine.proofs.engine.Engine.preview.Goals as goal

pub returns : goal.returns
returns g c =
    let draft = state_of c.in_ok-draft.draft.now in
    let of_ticket : open_draft (moment g.S.Reading g.S.Store c.args.self.now) c.args.ticket.now ≡ Some draft = search rules in (
      search rules,
      record {
        draft = draft;
        of_ticket = of_ticket;
        new = rule_tree c.in_ok-new.new.now;
        in_draft = search rules;
        old = rule_tree c.in_ok-old.old.now;
        in_book = search rules;
        previewed = c.compare.ensures;
      },
    )
