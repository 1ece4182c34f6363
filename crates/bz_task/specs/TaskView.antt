-- A task as others see it: what its contract speaks of.
use Rattle.std.specs.Prelude.{ℕ, Bool, Option}
use Rattle.bz_layout.specs.declared.config.Config.{Config}
use Rattle.bz_task.specs.Basis.{Basis}
use Rattle.bz_task.specs.Scene.{Scene, Stage}
use Rattle.bz_task.specs.Swaps.{Change}
use Rattle.bz_task.specs.declared.todo.Outcome.{Outcome}
use Rattle.bz_task.specs.declared.todo.Seen.{Seen}
use Rattle.bz_task.specs.declared.todo.Todo.{Todo}

pub record TaskView : Type 1 where
  -- the sizes of the memory that it works on
  pub config : Config
  -- what it asked for last; none before the first `next`
  pub asks : Option Todo
  -- how it has ended, if it has
  pub end : Option Outcome
  -- the most steps that it has left: a flush counts two, and each other act one, as does its end. What it asks for now is not counted
  -- any more
  pub left : ℕ
  -- the most swaps that it will still ask for, with the one that it asks for now
  pub swaps : ℕ
  -- how many of its swaps it was told to have taken effect, while it goes on
  pub made : ℕ
  -- how many slots it will still take, all at once: at most as many as a split takes
  pub needs : ℕ
  -- the change that its call makes, if it makes one
  pub change : Change
  -- what it was made of, where it freezes a node or makes one anew
  pub basis : Basis
  -- the swap that it asks for makes the change
  pub publishing : Bool
  -- what it has learnt: of the scene, at this stage of what it asked for
  pub facts : Stage → Scene → Type 0
  -- what its end means
  pub means : Outcome → Scene → Type 0
  -- the answer is another value than the one that a validating load has to find
  pub differs : Seen → Type 0
