-- A solitary get whose look-up has ended.
use Rattle.std.proofs.Common.{◌≡◌, ◌≢◌, ℕ, ◌*◌, ◌≤◌, length, arith, refl, sym, ap, subst, ◌∙◌, List, ◌∷◌, Option, Some, None}
use Rattle.std.specs.Prelude.{get_or}
use Rattle.bz_solo.specs.FromAlone.Undisturbed.{IsUndisturbed}
use Rattle.bz_solo.specs.FromAlone.Brief.{IsBrief, LooksFor}
use Rattle.bz_solo.specs.FromAlone.Reads.{get_reads}
use Rattle.bz_call.specs.Map.{key_of}
use Rattle.bz_call.specs.declared.calls.Call.TheVariants as call
use Rattle.bz_call.specs.declared.replies.Reply.{Reply}
use Rattle.bz_mark.specs.Log.{Log}
use Rattle.bz_mark.specs.declared.marks.Mark.TheVariants.{End}
use Rattle.bz_any_task.specs.Duties.{end_of}
use Rattle.bz_any_task.specs.LookingUp.{Look, ForWay, ForKey, NoLook, look_of, EndsAs}
use Rattle.bz_any_task.specs.declared.running.AnyTask.{AnyTask}
use Rattle.bz_sound.specs.Calls.{Open}
use Rattle.bz_sound.specs.Solitary.{acts_since}
use Rattle.bz_sound.specs.Memory.Moments.{image_at}
use Rattle.bz_swap.specs.SwapMemory.{SwapMemory}
use Rattle.bz_task.specs.Outcomes.{IsPath, IsKeyView}
use Rattle.bz_task.specs.Scene.{Scene}
use Rattle.bz_task.specs.declared.path.Path.{Path}
use Rattle.bz_task.specs.declared.todo.Outcome.{Outcome}
use Rattle.bz_task.specs.declared.todo.Outcome.TheVariants as outcome
use Rattle.bz_task.specs.declared.view.KeyView.{KeyView}
use Rattle.bz_world.specs.Inside.Going.{MustGoOn, MustAnswerKey, known}
use Rattle.bz_world.specs.Inside.Laws.{SolitaryLaws}
use Rattle.bz_world.specs.Inside.Solitary.{WhereSolitary, IsNotSolitary, IsNotSolitaryIn, HasLooked}
use Rattle.bz_world.specs.WorldView.{GetsBriefly}
use Rattle.bz_world.specs.declared.parts.Parts.{Parts}
use Rattle.bz_world.proofs.Solitary.{looks-some, undisturbed-since}
use Rattle.bz_world.proofs.TakingOn.{known-scene}

-- it ends with the path, or with what was found of the key
look-ends : (l : Look) (o : Outcome) → l ≢ NoLook → EndsAs l o → o ≢ outcome.Restart → ((path : Path) → o ≢ outcome.Path path) → ((view : KeyView) → o ≢ outcome.Key view) → ⊥
look-ends NoLook o some e stands path view = some refl
look-ends ForWay (outcome.Path way) some e stands path view = path way refl
look-ends ForKey (outcome.Key found) some e stands path view = view found refl
look-ends ForWay outcome.Restart some e stands path view = stands refl
look-ends ForKey outcome.Restart some e stands path view = stands refl
look-ends ForWay o some e stands path view = e
look-ends ForKey o some e stands path view = e

pub other-ended : (p : Parts) (w : ℕ) (on : MustGoOn p w) (o : Outcome) → end_of on.serving.task ≡ Some o → ((path : Path) → o ≢ outcome.Path path) → ((view : KeyView) → o ≢ outcome.Key view) → IsNotSolitary p.journal.past w on.serving.call
other-ended p w on o end path view key get solitary =
    let h = on.solitary key get solitary in
    look-ends (look_of on.serving.task) o (looks-some key on.serving.path on.serving.task h.get.brief.looks) (h.get.looks.ends o end) (λ e. h.stands (end ∙ ap Some e)) path view

-- with the latter, where the path was found
key-ends : (o : Outcome) → EndsAs ForKey o → o ≢ outcome.Restart → ((view : KeyView) → o ≢ outcome.Key view) → ⊥
key-ends (outcome.Key found) e stands view = view found refl
key-ends outcome.Restart e stands view = stands refl
key-ends o e stands view = e

pub other-found : (p : Parts) (w : ℕ) (on : MustGoOn p w) (o : Outcome) → end_of on.serving.task ≡ Some o → (path : Path) → on.serving.path ≡ Some path → ((view : KeyView) → o ≢ outcome.Key view) → IsNotSolitary p.journal.past w on.serving.call
other-found p w on o end path found view key get solitary =
    let h = on.solitary key get solitary in
    let looks : LooksFor key (Some path) on.serving.task = subst (λ z. LooksFor key z on.serving.task) found h.get.brief.looks in
    key-ends o (subst (λ l. EndsAs l o) looks.0 (h.get.looks.ends o end)) (λ e. h.stands (end ∙ ap Some e)) view

-- what stands in the table is the call
pub other-in : (p : Parts) (w : ℕ) (on : MustGoOn p w) → IsNotSolitary p.journal.past w on.serving.call → IsNotSolitaryIn p.journal.past w (get_or p.workers.items w None)
other-in p w on other = subst (IsNotSolitaryIn p.journal.past w) (sym on.is) other

-- the path was looked for before it was found
pub no-way : (m : SwapMemory) (w acts : ℕ) (key : List ℕ) (way : Option Path) (t : AnyTask) (path : Path) → EndsAs (look_of t) (outcome.Path path) → IsBrief m w acts key way t → IsBrief m w acts key None t
no-way m w acts key None t path e brief = brief
no-way m w acts key (Some found) t path e brief = absurd (subst (λ l. EndsAs l (outcome.Path path)) brief.looks.0 e)

-- and by it the key was
pub record HasWay (way : Option Path) : Type 0 where
  pub path : Path
  pub is : way ≡ Some path

some-way : (key : List ℕ) (way : Option Path) (t : AnyTask) (view : KeyView) → EndsAs (look_of t) (outcome.Key view) → LooksFor key way t → HasWay way
some-way key None t view e l = absurd (subst (λ z. EndsAs z (outcome.Key view)) l e)
some-way key (Some path) t view e l = record { path = path; is = refl }

-- so its acts are few
pub few-acts : SolitaryLaws → (p : Parts) (w : ℕ) (view : KeyView) (m : MustAnswerKey p w view)
    → WhereSolitary p.journal.past w m.on.serving.call (λ key. acts_since w p.journal.past ≤ 2 * get_reads p.config (image_at p.journal.start view.at p.journal.past) key)
few-acts b p w view m key get solitary = subst (λ i. acts_since w p.journal.past ≤ 2 * get_reads p.config i key) image few
  where
    here : Scene
    here = known p w m.on

    h : HasLooked p.access p.journal.past m.on.between.story w m.on.serving m.on.between.opened key
    h = m.on.solitary key get solitary

    way : HasWay m.on.serving.path
    way = some-way key m.on.serving.path m.on.serving.task view (h.get.looks.ends (outcome.Key view) m.ends.1) h.get.brief.looks

    alone : IsUndisturbed 0 here.past
    alone = omega (
      arith,
      undisturbed-since b.fall p.config m.on.between.story.at m.on.between.story.from (length p.journal.past) m.on.between.opened.begun m.on.between.call_open.look.since m.on.between.living.history
          (m.on.between.living.begins w m.on.between.opened m.on.between.call_open.is_open) m.on.between.call_open.look.after_begin m.on.between.call_open.look.by_now h.get.alone,
    )

    viewed : IsKeyView key view here.past
    viewed = subst (λ k. IsKeyView k view here.past) (ap key_of get) m.viewed

    leads : IsPath key way.path here.past
    leads = subst (λ k. IsPath k way.path here.past) (ap key_of get) (m.leads way.path way.is)

    few : acts_since w p.journal.past ≤ 2 * get_reads p.config (here.past.at view.at).image key
    few = b.few p.access w (acts_since w p.journal.past) key way.path m.on.serving.task view here (subst (λ z. IsBrief p.access w (acts_since w p.journal.past) key z m.on.serving.task) way.is h.get.brief) h.get.looks (known-scene b.scenes p w m.on) alone m.ends.0 m.ends.1 viewed leads

    image : (here.past.at view.at).image ≡ image_at p.journal.start view.at p.journal.past
    image = m.on.between.living.images view.at (omega (arith, m.viewed.since, m.on.between.call_open.look.after_begin, m.on.between.living.begins w m.on.between.opened m.on.between.call_open.is_open)) m.viewed.now

-- and its End says so
pub ends-briefly : (p : Parts) (w n : ℕ) (reply : Reply) (at : ℕ) (on : MustGoOn p w) (new : Log) → new.past ≡ End w n reply at ∷ p.journal.past
    → WhereSolitary p.journal.past w on.serving.call (λ key. acts_since w p.journal.past ≤ 2 * get_reads p.config (image_at p.journal.start at p.journal.past) key) → GetsBriefly p.config p.journal w new
ends-briefly p w n reply at on new is brief number moment answer opened key ends is-open get solitary =
    let both : (End w n reply at ∷ p.journal.past) ≡ (End w number answer moment ∷ p.journal.past) = sym is ∙ ends in
    let when : at ≡ moment = cc both in
    let calls : Some on.between.opened ≡ Some opened = sym on.between.call_open.is_open ∙ is-open in
    let same : on.between.opened ≡ opened = cc calls in
    let called : on.serving.call ≡ call.Get key = sym on.between.call_open.call ∙ (ap (λ (o : Open). o.call) same ∙ get) in
    subst (λ z. acts_since w p.journal.past ≤ 2 * get_reads p.config (image_at p.journal.start z p.journal.past) key) when (brief key called solitary)
