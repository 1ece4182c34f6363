-- What a turn of a call leaves of its pass.
use Rattle.std.proofs.Common.{◌≡◌, ℕ, ◌<◌, ◌≤◌, Bool, List, refl, sym, ap, subst, arith, Option, Some, None}
use Rattle.bz_bus.proofs.Entries.{leaves_extends, extends_trans}
use Rattle.bz_bus.specs.Entries.{Extends, MayFind, MayLeave}
use Rattle.bz_bus.specs.Passes as bus
use Rattle.bz_bus.specs.declared.TheConstants.{PASSES}
use Rattle.bz_call.specs.declared.calls.Call.{Call}
use Rattle.bz_index.proofs.Begins.{leaves-begun}
use Rattle.bz_index.proofs.Lists.{list_sound}
use Rattle.bz_index.proofs.Steps.{leaves-step}
use Rattle.bz_index.specs.Entries.{owner_of, entries_in}
use Rattle.bz_index.specs.Inside.Outcomes.{HasStepped, GoesOn}
use Rattle.bz_index.specs.Inside.Running.{IsRunning}
use Rattle.bz_index.specs.Passes.{origin_in, worker_of, seen_by, IsPlaced}
use Rattle.bz_index.specs.Worlds.{IsWorldOf, HasBegun}
use Rattle.bz_index.specs.declared.answer.Answer.{Answer}
use Rattle.bz_index.specs.declared.index.Index.{Index}
use Rattle.bz_index.specs.declared.index.IndexPass.{IndexPass}
use Rattle.bz_index.specs.declared.shared.IndexEntry.{IndexEntry}
use Rattle.bz_index.specs.declared.shared.Origin.{Origin}
use Rattle.bz_layout.specs.declared.config.Config.{Config}
use Rattle.bz_world.specs.WorldView.{WorldView}
use Rattle.bz_world.specs.declared.answers.Begun.{Begun}

-- it is still one of the index
pub placed_after : (index : Index) (old now : IndexPass) (lab : WorldView) → IsPlaced index old → bus.IsPassOf index.bus now.pass → worker_of now ≡ worker_of old → IsWorldOf (origin_in index) (seen_by now) lab
    → IsPlaced index now
placed_after index old now lab was pass same is = record {
  pass = pass;
  room = was.room;
  worker = (let within = was.worker in omega arith);
  below = was.below;
  sound = list_sound (origin_in index) (seen_by now) lab is;
}

-- what it has seen has grown
pub extends_after : (n : ℕ) (free : List Bool) (seen found left : List IndexEntry) → MayFind owner_of n free seen found → MayLeave owner_of n found left → Extends seen left
extends_after n free seen found left may leaves = extends_trans seen found left may.extends (leaves_extends owner_of n found left leaves)

pub begun_leaves : (origin : Origin) (found left : List IndexEntry) (w : ℕ) (call : Call) (answer : Begun) → w < PASSES → HasBegun origin found w call answer left → MayLeave owner_of w found left
begun_leaves origin found left w call answer below made =
    subst (λ (l : List IndexEntry). MayLeave owner_of w l left) made.before.told
    (subst (λ (l : List IndexEntry). MayLeave owner_of w (entries_in made.lab.log) l) made.after.told (leaves-begun made.lab w call below answer))

pub stepped_leaves : (origin : Origin) (found left : List IndexEntry) (w : ℕ) (page : List (List ℕ × List ℕ)) (answer : Option Answer) → 0 < w → w ≤ origin.config.workers → HasStepped origin found w left page answer
    → MayLeave owner_of w found left
stepped_leaves origin found left w page answer some within step =
    let made = step.made in
    let config : made.old.config ≡ origin.config = ap (λ (o : Origin). o.config) made.before.stays in
    subst (λ (l : List IndexEntry). MayLeave owner_of w l left) made.before.told
    (subst (λ (l : List IndexEntry). MayLeave owner_of w (entries_in made.old.log) l) made.after.told
    (leaves-step made.old w step.applied made.new some (subst (λ (c : Config). w ≤ c.workers) (sym config) within) made.applied))

-- what one number has, an equal one has
pub under : (P Q : ℕ → Type 0) (v w : ℕ) → v ≡ w → (P v → Q v) → P w → Q w
under P Q v w is goes p = subst Q is (goes (subst P (sym is) p))

-- without an answer the call goes on
pub unanswered : (origin : Origin) (w : ℕ) (call : Call) (first now : List IndexEntry) (page : List (List ℕ × List ℕ)) (o : Option Answer) → ((a : Answer) → o ≡ Some a → ⊥) → GoesOn origin w call first now page o
    → IsRunning w call first now
unanswered origin w call first now page None never goes = goes
unanswered origin w call first now page (Some a) never goes = absurd (never a refl)
