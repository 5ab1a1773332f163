-- Kinds of steps.
use Rattle.drafts.specs.declared.step.Step.{Step}
use Rattle.drafts.specs.declared.step.Step.TheVariants as S

-- Any step.
abbrev pub AnyStep : Step → Type 0
AnyStep step = Unit {0}

-- The step splits.
abbrev pub IsSplit : Step → Type 0
IsSplit (S.Add e) = ⊥
IsSplit (S.Remove e) = ⊥
IsSplit (S.Link p) = ⊥
IsSplit (S.Unlink p) = ⊥
IsSplit (S.Relink p) = ⊥
IsSplit (S.Join j) = ⊥
IsSplit (S.Split d) = Unit {0}
IsSplit (S.PutRule slot list) = ⊥
IsSplit (S.RemoveRule slot) = ⊥

-- The step splits or joins.
abbrev pub IsSplitOrJoin : Step → Type 0
IsSplitOrJoin (S.Add e) = ⊥
IsSplitOrJoin (S.Remove e) = ⊥
IsSplitOrJoin (S.Link p) = ⊥
IsSplitOrJoin (S.Unlink p) = ⊥
IsSplitOrJoin (S.Relink p) = ⊥
IsSplitOrJoin (S.Join j) = Unit {0}
IsSplitOrJoin (S.Split d) = Unit {0}
IsSplitOrJoin (S.PutRule slot list) = ⊥
IsSplitOrJoin (S.RemoveRule slot) = ⊥
