-- What a store holds, and what one put or one drop makes of it.
use Rattle.std.specs.Prelude.{ℕ, true, false, cond, not, ◌&&◌, List}
use Rattle.model.specs.Facts.{Facts, placed}
use Rattle.model.specs.Sizes.{takes}
use Rattle.model.specs.declared.reading.Reading.{Ghosts as ReadingOf}
use Rattle.model.specs.declared.store.Store.{Ghosts as StoreOf}

-- What a store holds: its facts, the words of the memory that it lies in, how many facts it has room for, and which memory it is.
pub record Content : Type 0 where
  pub facts : Facts
  pub words : List ℕ
  pub capacity : ℕ
  pub home : ℕ

abbrev pub content : {S : Type 0} → ReadingOf S → StoreOf S → S → Content
content R G s = record { facts = R.held s; words = G.words s; capacity = G.capacity s; home = G.home s }

-- What becomes of the words of a store when a fact is written that was not there, and when one is erased that was.
pub record Writing : Type 0 where
  pub written : List ℕ → ℕ → ℕ → ℕ → List ℕ
  pub erased : List ℕ → ℕ → ℕ → ℕ → List ℕ

abbrev pub writing : {S : Type 0} → StoreOf S → Writing
writing G = record { written = G.written; erased = G.erased }

-- The content after a put: the fact is in it, unless the put is turned down.
abbrev pub after_put : Writing → ℕ → ℕ → ℕ → Content → Content
after_put W s x y C =
    record {
      facts = cond (takes C.facts C.capacity s x y) (placed C.facts s x y true) C.facts;
      words = cond (takes C.facts C.capacity s x y && not (C.facts s x y)) (W.written C.words s x y) C.words;
      capacity = C.capacity;
      home = C.home;
    }

-- The content after a drop: the fact is not in it.
abbrev pub after_drop : Writing → ℕ → ℕ → ℕ → Content → Content
after_drop W s x y C =
    record {
      facts = placed C.facts s x y false;
      words = cond (C.facts s x y) (W.erased C.words s x y) C.words;
      capacity = C.capacity;
      home = C.home;
    }
