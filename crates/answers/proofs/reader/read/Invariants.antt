use Rattle.std.proofs.Common.{◌≡◌, ℕ, ◌≤◌, true, [], length, take, drop, None}
use Rattle.rules.specs.Rules.{trees}
use Rattle.rules.specs.Scan.{bad_shape}
use Rattle.answers.specs.Stack.{Answers}
use Rattle.answers.proofs.reader.read.Given as goal

-- the rest has no fault, and the stack has the answers for the trees so far
abbrev pub invariant-loop-node : goal.invariant-loop-node
invariant-loop-node g l = record {
  room : 16 ≤ l.stack.room;
  few : length l.stack.answers ≤ l.node-index;
  shape : bad_shape l.node-index (length l.stack.answers) (drop l.node-index l.node-items) ≡ None;
  answers : (a : ℕ) → g.Q.Question.asks l.question a ≡ true
      → Answers (g.Q.Question.facts l.question) a (λ x. g.A.Answer.isin x a) l.stack.answers (trees [] (take l.node-index l.node-items));
}
