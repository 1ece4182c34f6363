-- Where the swap by which a delete takes its record away takes effect and no other call is open, the journal shows directly after the effect all that was taken.
use Rattle.std.proofs.Common.{◌≡◌, ◌≢◌, ℕ, ◌+◌, ◌<◌, ◌≤◌, if◌then◌else◌, Bool, true, false, List, ◌∷◌, length, slice_index, arith, sym, ap, subst, ◌∙◌, inl, inr, Option, Some, None}
use Rattle.std.specs.Prelude.{get_or, nat_lt}
use Rattle.std.proofs.lemmas.Bool.{cases_eq, cases_lt, true≢false}
use Rattle.bz_layout.specs.Addresses.{swap_address}
use Rattle.bz_layout.specs.declared.config.Config.{Config}
use Rattle.bz_mark.specs.Log.{Log}
use Rattle.bz_mark.specs.declared.marks.Mark.{Mark}
use Rattle.bz_mark.specs.declared.marks.Mark.TheVariants.{Effect}
use Rattle.bz_any_task.specs.Duties.{asks_of, facts_of, view_of}
use Rattle.bz_any_task.specs.Kinds as kinds
use Rattle.bz_any_task.specs.Kinds.{kind_of}
use Rattle.bz_any_task.specs.declared.running.AnyTask.{AnyTask}
use Rattle.bz_sound.specs.Calls.{open_call}
use Rattle.bz_sound.specs.Solitary.{IsSolitary}
use Rattle.bz_mark.specs.Counts.{count_taken}
use Rattle.bz_sound.specs.Memory.Spent.{is_stored_into}
use Rattle.bz_sound.specs.Power.Spent.{count_used}
use Rattle.bz_mark.specs.Times.{since_on}
use Rattle.bz_swap.specs.SwapMemory.{SwapMemory, Idle, Swapping, doing_of}
use Rattle.bz_swap.specs.TakenStatuses.{IsTaken}
use Rattle.bz_task.specs.Scene.{HasFilled, Scene, Waiting}
use Rattle.bz_task.specs.declared.todo.Todo.TheVariants as todo
use Rattle.bz_word.specs.declared.entry.Entry.{Entry}
use Rattle.bz_world.specs.Inside.Acted.{IsStriking}
use Rattle.bz_world.specs.Inside.Laws.{StrikeLaws}
use Rattle.bz_world.specs.Inside.Paid.{stock_of}
use Rattle.bz_world.specs.Inside.Serving.{IsAtRest, IsSlot}
use Rattle.bz_world.specs.declared.parts.Parts.{Parts}
use Rattle.bz_world.specs.declared.serving.OpenCall.{OpenCall}
use Rattle.bz_world.proofs.Powered.{flush-leaves, free-on}
use Rattle.bz_world.proofs.Striking.{after, before, flush-calls, its, kept, living, old, owner, w, waits, x}
use Rattle.bz_world.proofs.StruckQuietly.{still-does}
use Rattle.bz_world.proofs.ToldShown.{as-taken, none-lost}

-- a delete that asks for its swap has stored into each slot that its worker took
delete-filled : (t : AnyTask) (entries : List Entry) (u : Scene) → kind_of t ≡ kinds.Delete → asks_of t ≡ Some (todo.Swap entries) → facts_of t Waiting u → HasFilled u
unfolding kind_of view_of
delete-filled t entries u is asks facts j took = grind arith

module _ (b : StrikeLaws) (p : Parts) (s : ℕ) (h : IsStriking p s) (solitary : IsSolitary (w b p s h) (h.mark ∷ (old b p s h).journal.past)) (deletes : kind_of (x b p s h).task ≡ kinds.Delete) where
  abbrev c : Config
  c = (old b p s h).config

  abbrev log : Log
  log = (old b p s h).journal

  abbrev worker : ℕ
  worker = w b p s h

  -- the other workers are at rest
  rest : (v : ℕ) → v ≢ worker → IsAtRest (old b p s h).access log (kept b p s h).story v
  rest v ne = by (get_or (old b p s h).workers.items v None) ((kept b p s h).workers v)
    where
      none : open_call v log.past ≡ None
      none = sym (flush-calls v h.mark log.past h.flush) ∙ b.solitary.alone worker v (h.mark ∷ log.past) solitary ne

      by : (slot : Option OpenCall) → IsSlot c (old b p s h).access log (kept b p s h).story (old b p s h).owners.items (stock_of (old b p s h)) v slot → IsAtRest (old b p s h).access log (kept b p s h).story v
      by None r = r
      by (Some y) t = absurd (let never : None ≡ Some t.opened = sym none ∙ t.call_open.is_open in cc never)

  -- so the status of no descriptor that is taken is free
  its-taken : IsTaken p.access s
  its-taken = h.decided

  all-begun : (t : ℕ) → t < p.access.taken → IsTaken p.access t
  all-begun t few = elim (h.taken.held t few) [
    | inr taken ↦ taken
    | inl doing ↦ elim (cases_eq doing.0 worker) [
      | inr ne ↦ absurd (let never : Idle ≡ Swapping t = sym (rest doing.0 ne).idle ∙ (sym (h.work.doing doing.0) ∙ doing.1) in cc never)
      | inl e ↦ (
          let both : Swapping s ≡ Swapping t = sym (still-does b p s h) ∙ (ap (doing_of p.access) (sym e) ∙ doing.1) in
          let same : s ≡ t = cc both in
          subst (IsTaken p.access) same its-taken)
    ]
  ]

  pub shown-taken : p.access.taken ≤ count_taken c (since_on (Effect worker (its b p s h).opened.number ∷ h.mark ∷ log.past))
  shown-taken =
      let there : count_taken p.config (since_on p.journal.past) ≡ count_taken c (since_on (h.mark ∷ log.past)) = ap (λ (q : Parts). count_taken q.config (since_on q.journal.past)) h.rest in
      omega (arith, as-taken p h.taken all-begun, there)

  -- and the workers have stored into each slot that they took
  filled : (v j : ℕ) → (kept b p s h).story.took v j ≡ true → (kept b p s h).story.filled v j ≡ true
  filled v j took = elim (cases_eq v worker) [
    | inr ne ↦ (rest v ne).filled j took
    | inl e ↦ (
        let its-own : (kept b p s h).story.took worker j ≡ true = subst (λ (u : ℕ). (kept b p s h).story.took u j ≡ true) e took in
        subst (λ (u : ℕ). (kept b p s h).story.filled u j ≡ true) (sym e) (delete-filled (x b p s h).task _ (before b p s h) deletes (owner b p s h).asks (waits b p s h) j its-own))
  ]

  all-stored : (v j : ℕ) → (after b p s h).took v j ≡ true → is_stored_into c j (since_on (h.mark ∷ log.past)) ≡ true
  all-stored v j took = (living b p s h).stored v j (filled v j took)

  pub shown-used : c.nodes ≤ length (old b p s h).slots.free + count_used c log.start (Effect worker (its b p s h).opened.number ∷ h.mark ∷ log.past)
  shown-used = none-lost c log.start (h.mark ∷ log.past) (old b p s h).slots (after b p s h).took
      (free-on c log.start log.past h.mark (old b p s h).slots (after b p s h).took (flush-leaves h.mark log.past h.flush) (kept b p s h).free) all-stored
