-- What a recovery knows is what its sweep knows: the acts of its walk are loads, and change nothing.
use Rattle.std.proofs.Common.{◌≡◌, ℕ, ◌^◌, ◌<◌, Bool, refl, sym, subst, Option}
use Rattle.std.specs.Prelude.{Some, None}
use Rattle.bz_layout.specs.Addresses.{words_of}
use Rattle.bz_layout.specs.declared.config.Config.{Config}
use Rattle.bz_task.specs.Scene.{Stage, Waiting, Took}
use Rattle.bz_task.specs.declared.todo.Outcome.TheVariants.{Recovered as Ended}
use Rattle.bz_task.specs.declared.todo.Todo.{Todo}
use Rattle.bz_task.specs.declared.todo.Todo.TheVariants.{Load, Store, Flush, Read as ReadAt, Swap, Finish}
use Rattle.bz_sweep.specs.Areas.{area_of, size_of}
use Rattle.bz_sweep.specs.Duties.{Asked, Made, area_in, asks_of as sweep_asks}
use Rattle.bz_sweep.specs.Knowledge.{IsNear as IsNearIn}
use Rattle.bz_sweep.specs.Laws.{IsAskable as IsAskableIn}
use Rattle.bz_sweep.specs.Memory.{Memory, StoresWord, Copies, Flushes}
use Rattle.bz_sweep.specs.Words.{IsRecovered as IsRecoveredIn}
use Rattle.bz_sweep.specs.declared.area.Area.{Area}
use Rattle.bz_sweep.specs.declared.ask.Ask.{Ask}
use Rattle.bz_sweep.specs.declared.ask.Ask.TheVariants.{Load as LoadWord, Store as StoreWord, Flush as FlushLine, Finish as NoMore}
use Rattle.bz_sweep.proofs.Proved.{sweeps_know}
use Rattle.bz_recover.specs.Contents.{ResolvesSome}
use Rattle.bz_recover.specs.Duties.{asks_in, asks_of, end_of, stage_of, Knows, IsReady}
use Rattle.bz_recover.specs.Knowledge.{IsNear}
use Rattle.bz_recover.specs.Laws.{IsAskable}
use Rattle.bz_recover.specs.Sweep.{IsImage, IsRecovered}
use Rattle.bz_recover.specs.Walking.{IsLoadOrEnd, asks_of_walk, end_in_walk}
use Rattle.bz_recover.specs.declared.recover.Recover.{Recover}
use Rattle.bz_recover.proofs.Images.{image-of, resolves-of}
use Rattle.bz_recover.proofs.Joining.{may-walk, sweep-ends}

-- a load of the walk lies in the memory
load-or-end : (c : Config) (todo : Todo) → IsLoadOrEnd c todo → IsAskable c todo
load-or-end c (Load a) h = h.within
load-or-end c Finish h = tt
load-or-end c (Store a x) h = absurd h
load-or-end c (Flush line) h = absurd h
load-or-end c (ReadAt a) h = absurd h
load-or-end c (Swap entries) h = absurd h

module _ (t : Recover) (ready : IsReady t) (v : ℕ → ℕ) where
  pub stable : (stage : Stage) (m n : Memory) (copied : ℕ → Bool) → Knows t v stage m → Copies m n copied → Knows t v stage n
  stable stage m n copied k h = sweeps_know.stable t.sweep v (stage_of stage) m n copied ready.sweep k h

  pub resolves : (stage : Stage) (m n : Memory) (copied : ℕ → Bool) → Knows t v stage m → Copies m n copied → ResolvesSome t.config v m.durable n.durable
  resolves stage m n copied k h = resolves-of (area_in t.sweep) t.config v m.durable n.durable ready.area (sweeps_know.resolves t.sweep v (stage_of stage) m n copied ready.sweep k h)

  pub image : (stage : Stage) (m : Memory) → Knows t v stage m → IsImage t.config v m.durable
  image stage m k = image-of (area_in t.sweep) t.config v m.durable ready.area (sweeps_know.image t.sweep v (stage_of stage) m ready.sweep k)

  pub near : (stage : Stage) (m : Memory) → Knows t v stage m → IsNear t.config v m
  near stage m k = subst (λ (r : Area). IsNearIn r v m) ready.area (sweeps_know.near t.sweep v (stage_of stage) m ready.sweep k)

  pub words : (stage : Stage) (m : Memory) (a : ℕ) → Knows t v stage m → a < words_of t.config → m.cached a < 2 ^ 64
  words stage m a k within = sweeps_know.words t.sweep v (stage_of stage) m a ready.sweep k (subst (λ (r : Area). a < size_of r) (sym ready.area) within)

  -- where the recovery has ended
  pub ends : (stage : Stage) (m : Memory) → Knows t v stage m → end_of t ≡ Some Ended → IsRecovered t.config v m
  ends stage m k e = subst (λ (r : Area). IsRecoveredIn r v m) ready.area (sweeps_know.ends t.sweep v (stage_of stage) m ready.sweep k (sweep-ends (sweep_asks t.sweep) (end_in_walk t.walk.step) e))

  -- its loads
  pub loaded : (m : Memory) (a : ℕ) → asks_of t ≡ Some (Load a) → Knows t v Waiting m → Knows t v Took m
  loaded m a e k = go (sweep_asks t.sweep) refl e
    where
      go : (o : Option Ask) → sweep_asks t.sweep ≡ o → asks_in o (asks_of_walk t.walk) ≡ Some (Load a) → Knows t v Took m
      go None p f = absurd (cc)
      go (Some (LoadWord b)) p f = sweeps_know.loaded t.sweep v m b ready.sweep p k
      go (Some (StoreWord b x)) p f = absurd (cc)
      go (Some (FlushLine line)) p f = absurd (cc)
      go (Some NoMore) p f = sweeps_know.ended t.sweep v Asked Made m p k

  -- its stores, which are the sweep's
  pub stored : (m n : Memory) (a x : ℕ) → asks_of t ≡ Some (Store a x) → Knows t v Waiting m → StoresWord m n a x → Knows t v Took n
  stored m n a x e k s = go (sweep_asks t.sweep) refl e
    where
      go : (o : Option Ask) → sweep_asks t.sweep ≡ o → asks_in o (asks_of_walk t.walk) ≡ Some (Store a x) → Knows t v Took n
      go None p f = absurd (cc)
      go (Some (LoadWord b)) p f = absurd (cc)
      go (Some (StoreWord b y)) p f =
          let place : a ≡ b = cc in
          let word : x ≡ y = cc in
          sweeps_know.stored t.sweep v m n b y ready.sweep p k (subst (λ z. StoresWord m n z y) place (subst (StoresWord m n a) word s))
      go (Some (FlushLine line)) p f = absurd (cc)
      go (Some NoMore) p f = absurd (may-walk t ready (Store a x) f)

  -- and its flushes
  pub flushed : (m n : Memory) (line : ℕ) → asks_of t ≡ Some (Flush line) → Knows t v Waiting m → Flushes m n line → Knows t v Took n
  flushed m n line e k s = go (sweep_asks t.sweep) refl e
    where
      go : (o : Option Ask) → sweep_asks t.sweep ≡ o → asks_in o (asks_of_walk t.walk) ≡ Some (Flush line) → Knows t v Took n
      go None p f = absurd (cc)
      go (Some (LoadWord b)) p f = absurd (cc)
      go (Some (StoreWord b y)) p f = absurd (cc)
      go (Some (FlushLine other)) p f = let place : line ≡ other = cc in sweeps_know.flushed t.sweep v m n other ready.sweep p k (subst (Flushes m n) place s)
      go (Some NoMore) p f = absurd (may-walk t ready (Flush line) f)

  -- what is asked for lies in the memory
  pub askable : (m : Memory) (todo : Todo) → Knows t v Waiting m → asks_of t ≡ Some todo → IsAskable t.config todo
  askable m todo k e = go (sweep_asks t.sweep) refl e
    where
      asked : (ask : Ask) → sweep_asks t.sweep ≡ Some ask → IsAskableIn (area_of t.config) ask
      asked ask p = subst (λ (r : Area). IsAskableIn r ask) ready.area (sweeps_know.askable t.sweep v m ask ready.sweep k p)

      go : (o : Option Ask) → sweep_asks t.sweep ≡ o → asks_in o (asks_of_walk t.walk) ≡ Some todo → IsAskable t.config todo
      go None p f = absurd (cc)
      go (Some (LoadWord b)) p f = let is : Load b ≡ todo = cc in subst (IsAskable t.config) is (asked (LoadWord b) p)
      go (Some (StoreWord b y)) p f = let is : Store b y ≡ todo = cc in subst (IsAskable t.config) is (asked (StoreWord b y) p)
      go (Some (FlushLine line)) p f = let is : Flush line ≡ todo = cc in subst (IsAskable t.config) is (asked (FlushLine line) p)
      go (Some NoMore) p f = load-or-end t.config todo (may-walk t ready todo f)
