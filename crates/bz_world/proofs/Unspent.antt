-- A call beside which no other was open, and whose reply tells of no change, has taken nothing.
use Rattle.std.proofs.Common.{◌≡◌, ◌<◌, ◌≤◌, ℕ, true, false, List, length, refl, sym, ap, subst, ◌∙◌, inl, inr, Option, Some, None}
use Rattle.std.proofs.lemmas.Bool.{true≢false}
use Rattle.std.specs.FinMap.{get}
use Rattle.bz_call.specs.Map.{Map, apply, apply_at, key_of, IsChange}
use Rattle.bz_call.specs.declared.calls.Call.{Call}
use Rattle.bz_call.specs.declared.calls.Call.TheVariants as call
use Rattle.bz_call.specs.declared.replies.Reply.{Reply}
use Rattle.bz_call.specs.declared.replies.Reply.TheVariants as reply
use Rattle.bz_sound.specs.Calls.{map_after, map_at}
use Rattle.bz_sound.specs.Solitary.{IsSolitary, NoneIsOpenBesideASolitaryCall}
use Rattle.bz_sound.specs.Memory.Moments.{map_at_start}
use Rattle.bz_sound.specs.Memory.Replies.{IsAnswerBy}
use Rattle.bz_sound.specs.Power.Replies.{IsRightReply}
use Rattle.bz_sound.specs.Power.Spent.{IsSpent}
use Rattle.bz_sound.specs.Replies.{Pages}
use Rattle.bz_world.specs.Inside.Beginning.{supply_of}
use Rattle.bz_world.specs.Inside.Going.{MustGoOn}
use Rattle.bz_world.specs.Inside.Paid.{begun_with}
use Rattle.bz_world.specs.Inside.Serving.{effect_reply}
use Rattle.bz_world.specs.WorldView.{tells_only}
use Rattle.bz_world.specs.declared.parts.Parts.{Parts}
use Rattle.bz_world.proofs.Due.{map-still}

-- such a reply is to no change
tells-no-change : (r : Reply) → tells_only r ≡ true → IsChange (Some r) → ⊥
tells-no-change reply.Inserted tells change = true≢false (sym tells)
tells-no-change (reply.Deleted had) tells change = true≢false (sym tells)
tells-no-change (reply.Updated had) tells change = true≢false (sym tells)
tells-no-change r tells change = absurd change

-- and none that tells of one
effect-tells-more : (called : Call) (had : Option (List ℕ)) → tells_only (effect_reply called had) ≡ false
effect-tells-more (call.Delete key) (Some had) = refl
effect-tells-more (call.Update key payload) (Some had) = refl
effect-tells-more (call.Upsert key payload) (Some had) = refl
effect-tells-more called had = refl

-- no page changes the map
page-changes-none : (found : Option (List ℕ)) (map : Map) (from : List ℕ) → IsChange (apply_at found map (call.Page from)).reply → ⊥
page-changes-none None map from change = change
page-changes-none (Some had) map from change = change

module _ (alone : NoneIsOpenBesideASolitaryCall) (p : Parts) (w : ℕ) (on : MustGoOn p w) (solitary : IsSolitary w p.journal.past) where
  abbrev called : Call
  called = on.between.opened.call

  abbrev now : Map
  now = map_after (map_at_start p.config p.journal.start) p.journal.past

  -- where the call is to change the map as it is, it does not answer so
  never-due : (pages : Pages) (r : Reply) (at : ℕ) → tells_only r ≡ true → on.between.opened.effect ≡ None → on.between.opened.begun < at → at ≤ length p.journal.past
      → IsAnswerBy (IsSpent p.config p.journal.start p.journal.past w on.between.opened) p.config p.journal.start pages p.journal.past (record { worker = w; opened = on.between.opened; reply = r; at = at }) None r → IsChange (apply now called).reply → ⊥
  never-due pages r at tells quiet after before answer due = by-reply r tells answer
    where
      still : map_at (map_at_start p.config p.journal.start) at p.journal.past ≡ now
      still = map-still alone (map_at_start p.config p.journal.start) w at p.journal.past on.between.opened solitary on.between.call_open.is_open quiet after before

      -- what it answered at that moment it answers now
      not-so : (r : Reply) → tells_only r ≡ true → (apply (map_at (map_at_start p.config p.journal.start) at p.journal.past) called).reply ≡ Some r → ⊥
      not-so r tells says = tells-no-change r tells (subst IsChange (ap (λ (map : Map). (apply map called).reply) (sym still) ∙ says) due)

      by-reply : (r : Reply) → tells_only r ≡ true → IsAnswerBy (IsSpent p.config p.journal.start p.journal.past w on.between.opened) p.config p.journal.start pages p.journal.past (record { worker = w; opened = on.between.opened; reply = r; at = at }) None r → ⊥
      by-reply reply.Exists tells a = not-so reply.Exists tells a.answers.answers
      by-reply reply.Missing tells a = not-so reply.Missing tells a.answers.answers
      by-reply (reply.Value payload) tells a = not-so (reply.Value payload) tells a.answers.answers
      by-reply (reply.Page page next) tells a = page-changes-none (get now (key_of (call.Page a.from))) now a.from (subst (λ (z : Call). IsChange (apply now z).reply) a.asked due)
      by-reply r tells a = true≢false (sym tells)

  -- nor does one that has had its effect
  never-effective : (pages : Pages) (r : Reply) (at effect : ℕ) → tells_only r ≡ true → on.between.opened.effect ≡ Some effect
      → IsAnswerBy (IsSpent p.config p.journal.start p.journal.past w on.between.opened) p.config p.journal.start pages p.journal.past (record { worker = w; opened = on.between.opened; reply = r; at = at }) (Some effect) r → ⊥
  never-effective pages r at effect tells is answer =
      let says : (apply (map_at (map_at_start p.config p.journal.start) effect p.journal.past) called).reply ≡ Some r = ap (λ k. (apply (map_at (map_at_start p.config p.journal.start) k p.journal.past) called).reply) (sym answer.moment) ∙ answer.answers in
      let both : Some (effect_reply called on.serving.had) ≡ Some r = sym (on.between.call_open.told effect is) ∙ says in
      let same : effect_reply called on.serving.had ≡ r = cc both in
      true≢false (sym tells ∙ (ap tells_only (sym same) ∙ effect-tells-more called on.serving.had))

  same-supply : p.access.taken ≡ p.taken_then → length p.slots.free ≡ p.left_then → supply_of p ≡ begun_with p
  same-supply taken left = ap (λ n. record { taken = n; left = length p.slots.free }) taken ∙ ap (λ n. record { taken = p.taken_then; left = n }) left

  -- so it ends with as much as it began with
  pub nothing-taken : (pages : Pages) (r : Reply) (at : ℕ) → tells_only r ≡ true → IsRightReply p.config p.journal.start pages p.journal.past (record { worker = w; opened = on.between.opened; reply = r; at = at }) → supply_of p ≡ begun_with p
  nothing-taken pages r at tells right = by-effect on.between.opened.effect refl
    where
      answers : (o : Option ℕ) → on.between.opened.effect ≡ o → IsAnswerBy (IsSpent p.config p.journal.start p.journal.past w on.between.opened) p.config p.journal.start pages p.journal.past (record { worker = w; opened = on.between.opened; reply = r; at = at }) o r
      answers o is = subst (λ (z : Option ℕ). IsAnswerBy (IsSpent p.config p.journal.start p.journal.past w on.between.opened) p.config p.journal.start pages p.journal.past (record { worker = w; opened = on.between.opened; reply = r; at = at }) z r) is right.right

      by-effect : (o : Option ℕ) → on.between.opened.effect ≡ o → supply_of p ≡ begun_with p
      by-effect (Some effect) is = absurd (never-effective pages r at effect tells is (answers (Some effect) is))
      by-effect None is = elim (on.between.due (sym on.between.call_open.effect ∙ is) solitary) [
        | inl due ↦ absurd (never-due pages r at tells is right.after_begin right.before_end (answers None is) (subst (λ (z : Call). IsChange (apply now z).reply) (sym on.between.call_open.call) due))
        | inr none ↦ same-supply none.same_taken none.same_left
      ]
