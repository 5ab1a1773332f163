use Rattle.std.proofs.Common.{◌≡◌, ℕ, ◌+◌, List, [], ◌∷◌, length, get_or, take, drop, sym, ap, ◌∙◌, subst, arith}
use Rattle.std.proofs.lemmas.List.{take_more, take_all}
use Rattle.rules.specs.declared.node.Leaf.TheVariants.{Actor}
use Rattle.rules.specs.declared.node.Node.{Node}
use Rattle.rules.specs.declared.node.Node.TheVariants.{Is}
use Rattle.rules.specs.Trees.{Tree}
use Rattle.rules.specs.Rules.{rule_tree, trees, grown}
use Rattle.rules.specs.Scan.{bad_shape}
use Rattle.rules.proofs.Accepts.{rule-trees}
use Rattle.rules.proofs.Parsed.{trees-more}
use Rattle.answers.specs.Stack.{Answers, Stacked}
use Rattle.answers.proofs.Rooms.{fits}
use Rattle.answers.proofs.Stacks.{answered}
use Rattle.answers.proofs.reader.read.Goals as goal

abbrev zero-node : Node
zero-node = Is (Actor 0)

pub take-requires-clause-leaf : goal.take-requires-clause-leaf
take-requires-clause-leaf g c =
    let inv = c.loop-node.invariant in
    let room = inv.room in
    let t = fits c.args.rule.now c.nodes-node-items.result.now c.nodes-node-items.ensures c.loop-node.node-index (length c.loop-node.stack.answers) zero-node c.loop-node-test.true inv.few inv.shape in
    λ e. let l = t.leaf e in omega arith

pub loop-node-preserved : goal.loop-node-preserved
loop-node-preserved g c =
    let ns = c.nodes-node-items.result.now in
    let i = c.loop-node.node-index in
    let inv = c.loop-node.invariant in
    let t = fits c.args.rule.now ns c.nodes-node-items.ensures i (length c.loop-node.stack.answers) zero-node c.loop-node-test.true inv.few inv.shape in
    let more : trees [] (take (i + 1) ns) ≡ grown (get_or ns i zero-node) (trees [] (take i ns)) =
    ap (trees []) (take_more ns i zero-node c.loop-node-test.true) ∙ trees-more [] (take i ns) (get_or ns i zero-node) in
    record {
      room = let r = inv.room in omega (arith, c.take.ensures.room);
      few = let f = t.fewer in omega (arith, c.take.ensures.height);
      shape = ap (λ (k : ℕ). bad_shape (i + 1) k (drop (i + 1) ns)) c.take.ensures.height ∙ t.next;
      answers = λ a asks. subst (λ (ts : List Tree). Answers (g.Q.Question.facts c.args.question.now) a (λ x. g.A.Answer.isin x a) c.take.new.self.answers ts)
          (sym more) (c.take.ensures.answers (trees [] (take i ns)) a asks (inv.answers a asks));
    }

pub returns : goal.returns
returns g c a asks =
    let ns = c.nodes-node-items.result.now in
    let i = c.loop-node.node-index in
    let whole : trees [] (take i ns) ≡ rule_tree c.args.rule.now ∷ [] =
    ap (trees []) (take_all i ns c.loop-node-test.false ∙ c.nodes-node-items.ensures) ∙ rule-trees c.args.rule.now in
    answered (g.Q.Question.facts c.args.question.now) a (λ x. g.A.Answer.isin x a) c.loop-node.stack.answers c.pop.new.self.answers c.pop.result (rule_tree c.args.rule.now)
    (ap (λ (s : Stacked _). s.answers) c.pop.ensures.last) whole (c.loop-node.invariant.answers a asks)
