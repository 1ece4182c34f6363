-- What the passes of an index keep: each call leaves a pass of the index.
use Rattle.std.proofs.Common.{◌≡◌, ◌≢◌, ℕ, ◌+◌, ◌<◌, ◌≤◌, ◌⊎◌, List, sym, ap, subst, arith, None}
use Rattle.std.specs.Prelude.{◌↔◌}
use Rattle.bz_bus.specs.Entries.{MayFind, MayLeave, IsJoinOf}
use Rattle.bz_bus.specs.Passes as bus
use Rattle.bz_bus.specs.declared.TheConstants.{PASSES}
use Rattle.bz_index.proofs.Events.{leaves-event}
use Rattle.bz_index.proofs.Lists.{list_sound}
use Rattle.bz_index.proofs.Rests.{first_opened, first_turned, first_lent, first_joined, of_longer}
use Rattle.bz_index.specs.Entries.{owner_of, entries_in, origin_of}
use Rattle.bz_index.specs.Passes.{origin_in, worker_of, seen_by, free_in, IsFree, IsAtRest, IsFirst, IsPassOf, IsEventOfFirst}
use Rattle.bz_index.specs.Worlds.{IsSoundList, IsWorldOf, HasMade}
use Rattle.bz_index.specs.declared.index.Index.{Index}
use Rattle.bz_index.specs.declared.index.IndexPass.{IndexPass}
use Rattle.bz_index.specs.declared.shared.IndexEntry.{IndexEntry}
use Rattle.bz_index.specs.declared.shared.Origin.{Origin}
use Rattle.bz_sound.specs.Calls.{open_call}
use Rattle.bz_world.specs.WorldView.{WorldView}
use Rattle.bz_world.specs.declared.answers.Applied.{Applied}
use Rattle.bz_world.specs.declared.answers.Event.{Event}

-- a first pass, by what it has seen and what it knows
first_pass : (index : Index) (p : IndexPass) → bus.IsPassOf index.bus p.pass → bus.passes_of index.bus ≡ (origin_in index).config.workers + 1 → (origin_in index).config.workers < PASSES
    → worker_of p ≡ 0 → IsSoundList (origin_in index) (seen_by p) → IsFirst (origin_in index) (seen_by p) (free_in p) → IsPassOf index p
first_pass index p pass room below zeroth sound first = record {
  placed = record { pass = pass; room = room; worker = omega arith; below = below; sound = sound };
  rests = λ some. absurd (omega arith);
  first = λ _. first;
}

-- the first pass of an index that was opened over this world
pub opened : (index : Index) (p : IndexPass) (lab : WorldView) → bus.IsPassOf index.bus p.pass → bus.passes_of index.bus ≡ lab.config.workers + 1 → origin_in index ≡ origin_of lab → lab.config.workers < PASSES
    → worker_of p ≡ 0 → seen_by p ≡ entries_in lab.log → IsWorldOf (origin_of lab) (entries_in lab.log) lab → ((w : ℕ) → open_call w lab.log.past ≡ None) → ((w : ℕ) → 0 < w → IsFree p w) → IsPassOf index p
opened index p lab pass room origin below zeroth seen world none free =
    let workers : (origin_in index).config.workers ≡ lab.config.workers = ap (λ (o : Origin). o.config.workers) origin in
    let is : IsWorldOf (origin_in index) (seen_by p) lab = record { stays = sym origin; told = sym seen; sound = world.sound; brief = world.brief } in
    first_pass index p pass (omega arith) (omega arith) zeroth
    (list_sound (origin_in index) (seen_by p) lab is)
    (first_opened (origin_in index) (seen_by p) lab (free_in p) is none free)

-- the first pass once a worker is out
pub lent : (index : Index) (old now : IndexPass) (worker : ℕ) → IsPassOf index old → worker_of old ≡ 0 → bus.IsPassOf index.bus now.pass → worker_of now ≡ 0 → seen_by now ≡ seen_by old
    → worker ≤ (origin_in index).config.workers → ((w : ℕ) → IsFree now w ↔ (IsFree old w × (w ≢ worker))) → IsPassOf index now
lent index old now worker was zeroth pass still seen within free =
    first_pass index now pass was.placed.room was.placed.below still
    (subst (IsSoundList (origin_in index)) (sym seen) was.placed.sound)
    (first_lent (origin_in index) (free_in old) (free_in now) (seen_by now) worker within free
    (subst (λ (l : List IndexEntry). IsFirst (origin_in index) l (free_in old)) (sym seen) (was.first zeroth)))

-- and the pass of that worker
pub newcomer : (index : Index) (old new : IndexPass) (worker : ℕ) → IsPassOf index old → worker_of old ≡ 0 → bus.IsPassOf index.bus new.pass → worker_of new ≡ worker → seen_by new ≡ seen_by old
    → 0 < worker → worker ≤ (origin_in index).config.workers → IsFree old worker → IsPassOf index new
newcomer index old new worker was zeroth pass is seen some within free = record {
  placed = record {
    pass = pass;
    room = was.placed.room;
    worker = omega arith;
    below = was.placed.below;
    sound = subst (IsSoundList (origin_in index)) (sym seen) was.placed.sound;
  };
  rests = λ _. subst (λ (l : List IndexEntry). IsAtRest (origin_in index) l (worker_of new)) (sym seen)
      (subst (IsAtRest (origin_in index) (seen_by old)) (sym is) ((was.first zeroth).rests worker some within free));
  first = λ none. absurd (omega arith);
}

-- the first pass once a worker is back
pub joined : (index : Index) (into from now : IndexPass) → IsPassOf index into → worker_of into ≡ 0 → IsPassOf index from → worker_of from ≢ 0 → bus.IsPassOf index.bus now.pass → worker_of now ≡ 0
    → IsJoinOf owner_of (seen_by into) (seen_by from) (worker_of from) (free_in into) (seen_by now) → ((w : ℕ) → IsFree now w ↔ (IsFree into w ⊎ (w ≡ worker_of from))) → IsPassOf index now
joined index into from now was zeroth theirs other pass still join free =
    let some : 0 < worker_of from = omega arith in
    first_pass index now pass was.placed.room was.placed.below still
    (of_longer (IsSoundList (origin_in index)) (seen_by into) (seen_by from) (seen_by now) join.is was.placed.sound theirs.placed.sound)
    (first_joined (origin_in index) (free_in into) (free_in now) (seen_by into) (seen_by from) (seen_by now) (worker_of from) was.placed.below join free (theirs.rests some) (was.first zeroth))

-- an event of the first pass adds entries of its own or of nobody
pub made_leaves : (origin : Origin) (found left : List IndexEntry) (event : Event) (answer : Applied) → IsEventOfFirst event → HasMade origin found event answer left → MayLeave owner_of 0 found left
made_leaves origin found left event answer first made =
    subst (λ (l : List IndexEntry). MayLeave owner_of 0 l left) made.before.told
    (subst (λ (l : List IndexEntry). MayLeave owner_of 0 (entries_in made.old.log) l) made.after.told (leaves-event made.old event answer made.new first made.applied))

-- the first pass after a turn of its own
pub turned : (index : Index) (old now : IndexPass) (event : Event) (answer : Applied) (found : List IndexEntry) → IsPassOf index old → worker_of old ≡ 0 → bus.IsPassOf index.bus now.pass → worker_of now ≡ 0
    → free_in now ≡ free_in old → IsEventOfFirst event → MayFind owner_of 0 (free_in old) (seen_by old) found → HasMade (origin_in index) found event answer (seen_by now) → IsPassOf index now
turned index old now event answer found was zeroth pass still free first may made =
    let origin = origin_in index in
    let left = seen_by now in
    first_pass index now pass was.placed.room was.placed.below still
    (list_sound origin left made.new made.after)
    (subst (IsFirst origin left) (sym free)
    (first_turned origin (free_in old) (seen_by old) found left was.placed.below may (made_leaves origin found left event answer first made) (was.first zeroth)))
