use Rattle.std.proofs.Common.{ap, ◌∙◌}
use Rattle.transfer.specs.Contents.{Content, content, writing}
use Rattle.transfer.specs.Orders.{each_fact, put_missing}
use Rattle.transfer.proofs.Fits.{fitting_model_is_held}
use Rattle.transfer.proofs.write_out.write_out.Goals as goal

pub returns-clause-exact : goal.returns-clause-exact
returns-clause-exact g c fits =
    let W = writing g.S.Store in
    let M = g.R.Reading.held c.args.model.now in
    ap (λ (D : Content). D.facts) (c.visit_all-2.ensures ∙ ap (each_fact (put_missing W M)) c.visit_all.ensures)
    ∙ fitting_model_is_held W M (content g.S.Reading g.S.Store c.args.store.now)
    (g.met.R.Reading.only_possible c.args.model.now) (g.met.S.Reading.only_possible c.args.store.now) fits
