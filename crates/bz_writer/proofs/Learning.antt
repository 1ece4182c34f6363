-- What a writer learns from an answer.
use Rattle.std.proofs.Common.{◌≡◌, ◌≢◌, ℕ, ◌+◌, ◌*◌, ◌<◌, if◌then◌else◌, Bool, true, false, arith, refl, sym, ap, subst, ◌∙◌}
use Rattle.std.specs.Prelude.{nat_lt}
use Rattle.std.proofs.lemmas.Bool.Decides.{nat_tests}
use Rattle.bz_layout.proofs.Laws.{slots_apart}
use Rattle.bz_layout.specs.Slots.{FreeSlots}
use Rattle.bz_layout.specs.declared.config.Config.{Config}
use Rattle.bz_layout.specs.declared.sizes.TheConstants.{NODE_WORDS, NODE_LINES}
use Rattle.bz_task.proofs.Proved.{nothing_is_gained}
use Rattle.bz_task.specs.OwnActs.{AreUnreached, gained}
use Rattle.bz_task.specs.Requests.{Answers, Tells, IsKnown}
use Rattle.bz_task.specs.Scene.{Scene, Stage, Waiting, Took, IsScene, HasFilled}
use Rattle.bz_task.specs.declared.todo.Seen.{Seen}
use Rattle.bz_task.specs.declared.todo.Seen.TheVariants.{Start, Read as Was, Stored, Flushed, Swapped, NoSwap as NoneLeft}
use Rattle.bz_renew.specs.Nodes.{AreSlotsTaken, HaveSlots}
use Rattle.bz_renew.proofs.NodeWrites.{all-begun, nodes-taken, none-begun}
use Rattle.bz_writer.specs.Facts.{IsWriting, write_asks, write_facts, write_ready}
use Rattle.bz_writer.specs.Laws.{IsSoundPlan, LooksWell}
use Rattle.bz_writer.specs.Phases.{IsWithin, HasLooked, write_next, store_after, flush_after}
use Rattle.bz_writer.specs.Plans.{Plan}
use Rattle.bz_writer.specs.declared.phase.WritePhase.{WritePhase}
use Rattle.bz_writer.specs.declared.phase.WritePhase.TheVariants.{Fresh, Guard, Store, Flush, Swap, Restart, NoSlot}
use Rattle.bz_writer.proofs.Staying.{no-slot}

-- from a store or a flush
after-store : (P : Plan) → 0 < P.nodes.count → (j : ℕ) (s : Scene) → write_facts P (Store j) Took s → write_facts P (store_after P.nodes.count j) Waiting s
after-store P some j s f = choose (nat_lt (j + 1) (NODE_WORDS * P.nodes.count)) refl
  where
    choose : (b : Bool) → nat_lt (j + 1) (NODE_WORDS * P.nodes.count) ≡ b → write_facts P (if b then Store (j + 1) else Flush 0) Waiting s
    choose true e = let more : j + 1 < NODE_WORDS * P.nodes.count = grind (arith, nat_tests) in (f.0, (more, f.1.1))
    choose false e =
        let all : ¬ (j + 1 < NODE_WORDS * P.nodes.count) = grind (arith, nat_tests) in
        let last : j + 1 ≡ NODE_WORDS * P.nodes.count = omega (arith, f.1.0, all) in
        (all-begun P.nodes (j + 1) s f.0 (omega (arith, last)), (omega (arith, some), subst (λ z. IsWriting P z 0 s) last f.1.1))

after-fence : (P : Plan) (j : ℕ) (s : Scene) → write_facts P (Flush j) Took s → write_facts P (flush_after P.nodes.count j) Waiting s
after-fence P j s f = choose (nat_lt (j + 1) (NODE_LINES * P.nodes.count)) refl
  where
    choose : (b : Bool) → nat_lt (j + 1) (NODE_LINES * P.nodes.count) ≡ b → write_facts P (if b then Flush (j + 1) else Swap) Waiting s
    choose true e = let more : j + 1 < NODE_LINES * P.nodes.count = grind (arith, nat_tests) in (f.0, (more, f.1.1))
    choose false e =
        let all : ¬ (j + 1 < NODE_LINES * P.nodes.count) = grind (arith, nat_tests) in
        let last : j + 1 ≡ NODE_LINES * P.nodes.count = omega (arith, f.1.0, all) in
        (f.0, subst (λ z. IsWriting P (NODE_WORDS * P.nodes.count) z s) last f.1.1)

-- in a phase after the slots were taken
told : (c : Config) (P : Plan) → 0 < P.nodes.count → (o : WritePhase) (seen : Seen) (stage : Stage) (s : Scene) → o ≢ Fresh → o ≢ Guard → write_facts P o stage s → Tells (write_asks c P o) stage seen s → write_facts P (write_next P.nodes.count o seen) Waiting s
told c P some (Store j) Stored Took s begun looked f t = after-store P some j s f
told c P some (Flush j) Flushed Took s begun looked f t = after-fence P j s f
told c P some Swap (Swapped true) Took s begun looked f t = f
told c P some Swap (Swapped false) Took s begun looked f t = absurd (cc)
told c P some Swap (Swapped true) Waiting s begun looked f t = absurd (cc)
told c P some Swap (Swapped false) Waiting s begun looked f t = f.0
told c P some Swap NoneLeft Waiting s begun looked f t = f.0
told c P some Fresh seen stage s begun looked f t = absurd (begun refl)
told c P some Guard seen stage s begun looked f t = absurd (looked refl)
told c P some o seen Waiting s begun looked f t = absurd (t)
told c P some o seen Took s begun looked f t = absurd (t)

pub learns-after : (c : Config) (P : Plan) → 0 < P.nodes.count → (o : WritePhase) (seen : Seen) (free : FreeSlots) (stage : Stage) (s : Scene) → o ≢ Fresh → o ≢ Guard → write_facts P o stage s → Tells (write_asks c P o) stage seen s
    → write_facts P (write_next P.nodes.count o seen) Waiting (gained s free free)
learns-after c P some o seen free stage s begun looked f t = no-slot P s free (write_next P.nodes.count o seen) (told c P some o seen stage s begun looked f t)

-- told to begin
pub learns-first : (c : Config) (P : Plan) (seen : Seen) (free : FreeSlots) (stage : Stage) (s : Scene) → write_facts P Fresh stage s → Tells (write_asks c P Fresh) stage seen s → write_facts P Guard Waiting (gained s free free)
learns-first c P Start free Waiting s f t = no-slot P s free Guard (t, f)
learns-first c P seen free Waiting s f t = absurd (t)
learns-first c P seen free Took s f t = absurd (f)

-- another look at the guard
record IsFound (P : Plan) (seen : Seen) (s : Scene) : Type 0 where
  filled : HasFilled s
  planned : P.planned s.past
  found : seen ≡ Was P.status → Answers s P.guard P.status

found-there : (c : Config) (P : Plan) (seen : Seen) (stage : Stage) (s : Scene) → write_facts P Guard stage s → Tells (write_asks c P Guard) stage seen s → IsFound P seen s
found-there c P (Was v) Waiting s f t = record { filled = f.0; planned = f.1; found = λ e. subst (Answers s P.guard) (value v P.status e) t }
  where
    value : (a b : ℕ) → Was a ≡ Was b → a ≡ b
    value a b e = cc
found-there c P seen Waiting s f t = absurd (t)
found-there c P seen Took s f t = absurd (f)

module _ (c : Config) (P Q : Plan) (old new : FreeSlots) (nodes : old.nodes ≡ c.nodes) (well : LooksWell P Q old new) (s : Scene) (config : s.past.config ≡ c) (good : IsScene s) (free : AreUnreached s old) where
  here-nodes : old.nodes ≡ s.past.config.nodes
  here-nodes = nodes ∙ ap (λ z. z.nodes) (sym config)

  begun-knows : 0 < Q.nodes.count → IsFound P (Was P.status) s → (j : ℕ) → j ≡ 0 → AreSlotsTaken Q.nodes old new → write_facts Q (Store j) Waiting (gained s old new)
  begun-knows some found j first taken =
      let told = well.ready s good here-nodes found.planned (found.found refl) taken in
      subst (λ z. write_facts Q (Store z) Waiting (gained s old new)) (sym first)
      (none-begun slots_apart Q.nodes s old new taken here-nodes free found.filled, (omega (arith, some), record { ready = told.0; plain = told.1; writing = nodes-taken slots_apart Q.nodes s old new taken here-nodes free }))

  pub learns-look : 0 < Q.nodes.count → Q.nodes.count ≡ P.nodes.count → (seen : Seen) (p : WritePhase) → HasLooked P.nodes.count P.status Q.nodes.slot seen p old new → (stage : Stage) → write_facts P Guard stage s → Tells (write_asks c P Guard) stage seen s → write_facts Q p Waiting (gained s old new)
  learns-look some count seen (Store j) h stage f t =
      let found = found-there c P seen stage s f t in
      begun-knows some (subst (λ z. IsFound P z s) h.0 found) j h.1.0 (subst (λ z. AreSlotsTaken (record { count = z; slot = Q.nodes.slot; image = Q.nodes.image }) old new) (sym count) (h.1.1 Q.nodes.image))
  learns-look some count seen NoSlot h stage f t =
      let found = found-there c P seen stage s f t in
      subst (λ z. write_facts Q NoSlot Waiting (gained s old z)) (sym h.1.1) (nothing_is_gained s old found.filled, well.none s good found.planned)
  learns-look some count seen Restart h stage f t =
      let found = found-there c P seen stage s f t in
      subst (λ z. write_facts Q Restart Waiting (gained s old z)) (sym h.1) (nothing_is_gained s old found.filled)
  learns-look some count seen p h stage f t = absurd (h)

-- what is asked for next is there
pub known-within : (c : Config) (P : Plan) (o : WritePhase) (seen : Seen) (moment : ℕ) → IsKnown c (write_facts P o) (write_asks c P o) seen moment → IsWithin P.nodes.count o
known-within c P (Store j) seen moment k = go k.stage k.holds
  where
    go : (stage : Stage) → write_facts P (Store j) stage k.scene → j < NODE_WORDS * P.nodes.count
    go Waiting f = f.1.0
    go Took f = f.1.0
known-within c P (Flush j) seen moment k = go k.stage k.holds
  where
    go : (stage : Stage) → write_facts P (Flush j) stage k.scene → j < NODE_LINES * P.nodes.count
    go Waiting f = f.1.0
    go Took f = f.1.0
known-within c P o seen moment k = tt

ready-here : (c : Config) (P : Plan) → IsSoundPlan P → (p : WritePhase) (s : Scene) → s.past.config ≡ c → IsScene s → write_facts P p Waiting s → write_ready c P p
ready-here c P sound (Store j) s same good f = (subst (λ z. HaveSlots z.nodes P.nodes) same f.1.1.writing.slots, f.1.0)
ready-here c P sound (Flush j) s same good f = (subst (λ z. HaveSlots z.nodes P.nodes) same f.1.1.writing.slots, f.1.0)
ready-here c P sound Swap s same good f = (subst (λ z. HaveSlots z.nodes P.nodes) same f.1.writing.slots, subst (λ z. P.nameable z) same (sound.nameable s good f.1.ready f.1.writing.slots))
ready-here c P sound p s same good f = tt

pub ready-after : (c : Config) (P : Plan) → IsSoundPlan P → (o : WritePhase) (seen : Seen) (moment : ℕ) → o ≢ Fresh → o ≢ Guard → IsKnown c (write_facts P o) (write_asks c P o) seen moment → write_ready c P (write_next P.nodes.count o seen)
ready-after c P sound o seen moment begun looked k = ready-here c P sound (write_next P.nodes.count o seen) k.scene k.config k.good (told c P sound.some o seen k.stage k.scene begun looked k.holds k.tells)

pub ready-look : (c : Config) (P Q : Plan) (seen : Seen) (p : WritePhase) (old new : FreeSlots) → 0 < Q.nodes.count → Q.nodes.count ≡ P.nodes.count → old.nodes ≡ c.nodes → HasLooked P.nodes.count P.status Q.nodes.slot seen p old new → write_ready c Q p
ready-look c P Q seen (Store j) old new some count nodes h = (
  let taken : AreSlotsTaken Q.nodes old new = subst (λ z. AreSlotsTaken (record { count = z; slot = Q.nodes.slot; image = Q.nodes.image }) old new) (sym count) (h.1.1 Q.nodes.image) in
      subst (λ z. HaveSlots z Q.nodes) nodes taken.slots,
  omega (arith, some, h.1.0),
)
ready-look c P Q seen NoSlot old new some count nodes h = tt
ready-look c P Q seen Restart old new some count nodes h = tt
ready-look c P Q seen p old new some count nodes h = absurd (h)
