-- What a walk knows of the step to which a true answer leads.
use Rattle.std.proofs.Common.{◌≡◌, ◌≢◌, ℕ, List, length, refl, sym, subst}
use Rattle.bz_layout.specs.Slots.{FreeSlots}
use Rattle.bz_layout.specs.declared.config.Config.{Config}
use Rattle.bz_task.specs.declared.todo.Seen.{Seen}
use Rattle.bz_task.specs.declared.todo.Seen.TheVariants.{Read}
use Rattle.bz_recover.specs.Walking.{IsTreeOf, Leads, Walks, answers_in, asks_of_walk, counts_in, goes_in, loads_in}
use Rattle.bz_recover.specs.declared.walk.Step.{Step}
use Rattle.bz_recover.specs.declared.walk.Step.TheVariants.{Fresh, Root, Header, Status, Meta, Pointer, Done}
use Rattle.bz_recover.specs.declared.walk.Walk.{Walk}

-- once it has begun it counts the slots that are free
pub counts : (c : Config) (left : ℕ) (free : List ℕ) (step : Step) → step ≢ Fresh → left ≡ length free → counts_in c left free step
counts c left free Fresh begun e = absurd (begun refl)
counts c left free Root begun e = e
counts c left free (Header slot) begun e = e
counts c left free (Status l slot) begun e = e
counts c left free (Meta l way) begun e = e
counts c left free (Pointer l way place) begun e = e
counts c left free Done begun e = e

-- what it knows, at a step that is named
pub known-at : (w : Walk) (slots : FreeSlots) (step : Step) (values image : ℕ → ℕ) → w.step ≡ step → Walks w values slots → IsTreeOf w.config values image → goes_in w.config image w.top w.ways slots.free step × counts_in w.config w.left slots.free step
known-at w slots step values image at walks t =
    subst (λ (s : Step). goes_in w.config image w.top w.ways slots.free s × counts_in w.config w.left slots.free s) at (walks image t)

-- what it knows at a step, where it has begun, and what the answer tells, lead to what it knows at the next one
pub learns :
    (w after : Walk) (slots slots-after : FreeSlots) (step next : Step) (seen : Seen) (y : ℕ) (values : ℕ → ℕ) →
    after.config ≡ w.config → w.step ≡ step → seen ≡ Read y →
    (counts_in w.config w.left slots.free step → w.left ≡ length slots.free) → next ≢ Fresh →
    Leads w slots.free step y after slots-after.free next → Walks w values slots → answers_in (asks_of_walk w) seen values →
    Walks (record after { step = next }) values slots-after
learns w after slots slots-after step next seen y values same at read counted begun leads walks told image tree =
    let t : IsTreeOf w.config values image = subst (λ (c : Config). IsTreeOf c values image) same tree in
    let known = known-at w slots step values image at walks t in
    let first : answers_in (loads_in w.config step) seen values = subst (λ (s : Step). answers_in (loads_in w.config s) seen values) at told in
    let heard : answers_in (loads_in w.config step) (Read y) values = subst (λ (s : Seen). answers_in (loads_in w.config step) s values) read first in
    let there = leads values image t (counted known.1) known.0 heard in
    (subst (λ (c : Config). goes_in c image after.top after.ways slots-after.free next) (sym same) there.0, counts after.config after.left slots-after.free next begun there.1)
