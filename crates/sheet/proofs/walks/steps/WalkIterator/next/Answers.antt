use Rattle.std.proofs.Common.{◌≡◌, ◌+◌, ◌∷◌, length, sym, ap, ◌∙◌, rules}
use Rattle.sheet.proofs.Steps.{step_left}
use Rattle.sheet.specs.Lefts.{left, left_at}
use Rattle.sheet.proofs.walks.steps.WalkIterator.next.Given as given
use Rattle.sheet.proofs.walks.steps.WalkIterator.next.Goals as goal
use Rattle.sheet.proofs.walks.steps.WalkIterator.next.Goals.{After-over}

-- what is left at the step begins with the line that it gives
first : (g : given.Over) (c : After-over g) → left g.P.Plan.meaning g.K.Item.GREATEST c.args.self.now ≡ (c.in_ok-reached.reached, c.over.result) ∷ left_at (g.P.Plan.meaning c.args.self.now.plan.now) g.K.Item.GREATEST (c.args.self.now.size + 1) c.next-self.result
first g c = step_left (g.P.Plan.meaning c.args.self.now.plan.now) g.K.Item.GREATEST c.args.self.now.size _ _ _ _ _ (sym c.take.ensures.value ∙ c.in_ok-reached.was) (sym c.pair.ensures ∙ c.in-Some.is) c.next-self.ensures c.over.ensures

pub returns-clause-steps : goal.returns-clause-steps
returns-clause-steps g c = first g (goal.at.returns-clause-steps g c).After-over

pub returns-clause-goes : goal.returns-clause-goes
returns-clause-goes g c = let fewer = ap length (first g (goal.at.returns-clause-goes g c).After-over) in search rules
