-- A step: one act, and what its call does without an act.
use Rattle.std.proofs.Common.{◌≡◌, ◌≢◌, ◌⊎◌, ◌<◌, ◌≤◌, ◌+◌, ◌==◌, if◌then◌else◌, ℕ, Bool, true, false, List, ◌∷◌, length, arith, sym, ap, subst, ◌∙◌, inl, inr, Option, Some, None}
use Rattle.std.specs.Prelude.{get_or, option_map}
use Rattle.std.proofs.Math.ListN.{get_or-map}
use Rattle.arrayvec.specs.ArrayVec.{ArrayVec}
use Rattle.bz_swap_acts.specs.declared.acted.Act.{Act}
use Rattle.bz_call.specs.declared.replies.Reply.TheVariants.{Full}
use Rattle.bz_layout.specs.declared.thresholds.TheConstants.{SPLIT_SLOTS}
use Rattle.bz_mark.specs.Log.{Log}
use Rattle.bz_mark.specs.declared.marks.Mark.{Mark}
use Rattle.bz_mark.specs.declared.marks.Mark.TheVariants.{End}
use Rattle.bz_sound.specs.Calls.{Open, open_call, with_effect}
use Rattle.bz_swap.specs.SwapMemory.{Working, idle, worker_of, doing_of}
use Rattle.bz_solo.specs.FromCosts.Resources.{Marks}
use Rattle.bz_swap.specs.Solo.{left_to}
use Rattle.bz_world.specs.Inside.Acted.{HasActed}
use Rattle.bz_world.specs.Inside.Beginning.{world_view, is_swap, supply_of}
use Rattle.bz_world.specs.Inside.Going.{WentOn}
use Rattle.bz_world.specs.Inside.Kept.{IsAwake}
use Rattle.bz_world.specs.Inside.Paid.{begun_with, bound_in, errand_of, stock_of, used_in}
use Rattle.bz_world.specs.Inside.Serving.{IsServing}
use Rattle.bz_world.specs.WorldView.{mark_of, stepper, deadline, IsStruck, Spends, EndsFullOfLittle, EndsFullRightly, EndsAsTold, EndsUnspent, GetsBriefly, KeepsSupply, RunsWhole, Steps, GoesOn, flush_of, is_swapping, EndsMerged}
use Rattle.bz_world.specs.declared.answers.Applied.{Applied}
use Rattle.bz_world.specs.declared.answers.Applied.TheVariants.{Stepped}
use Rattle.bz_world.specs.declared.parts.Parts.{Parts}
use Rattle.bz_world.proofs.Acting.{IsServed, is-served}
use Rattle.bz_world.proofs.Marking.{act-calls}
use Rattle.bz_world.proofs.Paid.{act-steps, steps-run, affords-room}
use Rattle.bz_world.proofs.PaidSteps.{kept-supply}
use Rattle.bz_world.proofs.Quiet.{serves}
use Rattle.bz_world.proofs.Supplies.{shown-on, not-longer}

-- what callers see of whether the next act is a fence
pub flush-is : (p : Parts) (v : ℕ) → flush_of (world_view p) v ≡ (worker_of p.access v).flush_next
flush-is p v = get_or-map (λ (z : Working). z.flush_next) p.access.workers v idle

pub flush-same : (old new : Parts) (v : ℕ) → worker_of new.access v ≡ worker_of old.access v → flush_of (world_view new) v ≡ flush_of (world_view old) v
flush-same old new v same = flush-is new v ∙ (ap (λ (z : Working). z.flush_next) same ∙ sym (flush-is old v))

-- and of whether a swap is under way
pub swap-is : (p : Parts) (v : ℕ) → is_swapping (world_view p) v ≡ is_swap (doing_of p.access v)
swap-is p v = get_or-map (λ (z : Working). is_swap z.doing) p.access.workers v idle

pub swap-same : (old new : Parts) (v : ℕ) → worker_of new.access v ≡ worker_of old.access v → is_swapping (world_view new) v ≡ is_swapping (world_view old) v
swap-same old new v same = swap-is new v ∙ (ap (λ (z : Working). is_swap z.doing) same ∙ sym (swap-is old v))

-- and of what is taken and left
spends-shown : (old new : Parts) (slots : ℕ) → IsAwake old → IsAwake new → Spends slots (supply_of old) (supply_of new) → Spends slots (world_view old).supply (world_view new).supply
spends-shown old new slots was is spends = subst (λ z. Spends slots z (world_view new).supply) (sym (shown-on old was.on)) (subst (Spends slots (supply_of old)) (sym (shown-on new is.on)) spends)

-- an act leaves the call of its worker open, and so does an effect that it has
effect-open : (t : Bool) (moment : ℕ) (o : Option Open) → o ≢ None → (if t then option_map (with_effect moment) o else o) ≢ None
effect-open true moment None some e = some e
effect-open true moment (Some opened) some e = absurd (cc e)
effect-open false moment o some e = some e

struck-open : (w : ℕ) (made : Act) (past new : List Mark) → open_call w past ≢ None → IsStruck (mark_of w made ∷ past) new → open_call w new ≢ None
struck-open w made past new some (inl same) = subst (λ (marks : List Mark). open_call w marks ≢ None) (sym same) (λ e. some (sym (act-calls w w past made) ∙ e))
struck-open w made past new some (inr struck) = subst (λ (marks : List Mark). open_call w marks ≢ None) (sym struck.1.1)
    (effect-open (struck.0 == w) (length (mark_of w made ∷ past)) (open_call w (mark_of w made ∷ past)) (λ e. some (sym (act-calls w w past made) ∙ e)))

-- and it is that worker that steps
struck-steps : (w : ℕ) (made : Act) (past new : List Mark) → IsStruck (mark_of w made ∷ past) new → stepper new ≡ Some w
struck-steps w made past new (inl same) = ap stepper same ∙ act-steps w made past
struck-steps w made past new (inr struck) = ap stepper struck.1.1 ∙ act-steps w made past

-- the call of a worker that steps ends in time
in-time : (p : Parts) → IsAwake p → (w : ℕ) → open_call w p.journal.past ≢ None → stepper p.journal.past ≡ Some w → length p.journal.past ≤ deadline p.config w p.journal.past
in-time p k w some steps = within (affords-room Marks p.access w (errand_of s.serving) (used_in Marks p w) (bound_in Marks p w) _ (h.paid (steps-run p.config w p.journal.past steps) Marks tt).affords)
  where
    s : IsServed p w (get_or p.workers.items w None)
    s = is-served p k w some

    h : IsServing p.config p.access p.journal k.story p.owners.items (stock_of p) w s.serving
    h = serves p k w s.serving s.is

    within : length p.journal.past + left_to p.access w + 1 ≤ deadline p.config w p.journal.past → length p.journal.past ≤ deadline p.config w p.journal.past
    within l = omega (arith, l)

-- and it has taken no more than is promised for it, if its worker has stepped alone since its begin
keeps-shown : (p : Parts) (k : IsAwake p) (w : ℕ) → open_call w p.journal.past ≢ None → RunsWhole p.config w p.journal.past → KeepsSupply (begun_with p) (world_view p).supply
keeps-shown p k w some whole = let s : IsServed p w (get_or p.workers.items w None) = is-served p k w some in subst (KeepsSupply (begun_with p)) (sym (shown-on p k.on)) (kept-supply p k w s.serving s.is whole)

-- an act after which the call goes on as it did
pub stepped-on : (old new : Parts) (w : ℕ) → IsAwake old → IsAwake new → open_call w old.journal.past ≢ None → HasActed old w new → new.access.taken ≡ old.access.taken → Steps (world_view old) w Stepped (world_view new)
stepped-on old new w was is some a taken = record {
  made = a.made;
  flush = a.flush ∙ sym (flush-is old w);
  struck = new.journal.past;
  effect = a.struck;
  ends = a.journal;
  spends = spends-shown old new SPLIT_SLOTS was is (record { taken = inl taken; fewer = omega (arith, left); few = omega (arith, left) });
  full = λ n at spent e. absurd (not-longer (End w n (Full spent) at) new.journal.past e);
  brief = λ n at reply opened key e. absurd (not-longer (End w n reply at) new.journal.past e);
  config = ap (λ (p : Parts). p.config) a.rest;
  at_start = ap (λ (p : Parts). p.at_start) a.rest;
  left_out = ap (λ (p : Parts). p.left_out.items) a.rest;
  others = λ v ne. flush-same old new v (a.others v ne);
  apart = λ v ne. swap-same old new v (a.others v ne);
  solo = in-time new is w (struck-open w a.made old.journal.past new.journal.past some a.struck) (struck-steps w a.made old.journal.past new.journal.past a.struck);
  at_begin = ap begun_with a.rest;
  supplied = keeps-shown new is w (struck-open w a.made old.journal.past new.journal.past some a.struck);
  little = λ whole n at spent e. absurd (not-longer (End w n (Full spent) at) new.journal.past e);
  unspent = λ n at reply e tells solitary. absurd (not-longer (End w n reply at) new.journal.past e);
  exact = λ n at reply opened e is-open solitary room. absurd (not-longer (End w n reply at) new.journal.past e);
  merged = λ n at reply e. absurd (not-longer (End w n reply at) new.journal.past e);
}
  where
    left : length new.slots.free ≡ length old.slots.free
    left = ap (λ (p : Parts). length p.slots.free) a.rest

-- an act that ended what was asked for, and then what comes of that
pub stepped-through : (old mid told new : Parts) (w : ℕ) (answer : Applied) → IsAwake old → HasActed old w mid → mid.access.taken ≡ old.access.taken → told ≡ record mid { slots = told.slots; workers = told.workers }
    → length told.slots.free ≤ length mid.slots.free → length mid.slots.free ≤ length new.slots.free + SPLIT_SLOTS → WentOn told w answer new → Steps (world_view old) w answer (world_view new)
stepped-through old mid told new w answer was a taken rest fewer few went = record {
  made = a.made;
  flush = a.flush ∙ sym (flush-is old w);
  struck = mid.journal.past;
  effect = a.struck;
  ends = subst (λ (j : Log). GoesOn j w answer new.journal) journal went.ends;
  spends = spends-shown old new SPLIT_SLOTS was went.kept (record {
    taken = subst (λ n. (new.access.taken ≡ n) ⊎ (new.access.taken ≡ n + 1)) (ap (λ (p : Parts). p.access.taken) rest ∙ taken) went.spends.taken;
    fewer = omega (arith, left, fewer, less);
    few = omega (arith, left, few);
  });
  full = subst (EndsFullRightly new.config (record old.journal { past = mid.journal.past }) w new.journal) (sym (shown-on new went.kept.on)) (subst (λ (j : Log). EndsFullRightly new.config j w new.journal (supply_of new)) journal went.full);
  brief = subst (λ (j : Log). GetsBriefly new.config j w new.journal) journal went.brief;
  config = went.config ∙ (ap (λ (p : Parts). p.config) rest ∙ ap (λ (p : Parts). p.config) a.rest);
  at_start = went.at_start ∙ (ap (λ (p : Parts). p.at_start) rest ∙ ap (λ (p : Parts). p.at_start) a.rest);
  left_out = ap (λ (flags : ArrayVec Bool). flags.items) (went.left_out ∙ (ap (λ (p : Parts). p.left_out) rest ∙ ap (λ (p : Parts). p.left_out) a.rest));
  others = λ v ne. flush-same old new v (went.others v ne ∙ (ap (λ (p : Parts). worker_of p.access v) rest ∙ a.others v ne));
  apart = λ v ne. swap-same old new v (went.others v ne ∙ (ap (λ (p : Parts). worker_of p.access v) rest ∙ a.others v ne));
  solo = subst (λ (j : Log). length new.journal.past ≤ deadline new.config w j.past) journal went.solo;
  at_begin = went.begun ∙ (ap begun_with rest ∙ ap begun_with a.rest);
  supplied = λ whole. subst (KeepsSupply (begun_with new)) (sym (shown-on new went.kept.on)) (went.supplied (subst (λ (j : Log). RunsWhole new.config w j.past) (sym journal) whole));
  little = λ whole. subst (λ (j : Log). EndsFullOfLittle new.config j w new.journal (begun_with new)) journal (went.little (subst (λ (j : Log). RunsWhole new.config w j.past) (sym journal) whole));
  unspent = subst (EndsUnspent (record old.journal { past = mid.journal.past }) w new.journal (begun_with new)) (sym (shown-on new went.kept.on)) (subst (λ (j : Log). EndsUnspent j w new.journal (begun_with new) (supply_of new)) journal went.unspent);
  exact = subst (EndsAsTold new.config (record old.journal { past = mid.journal.past }) w new.journal (begun_with new)) (sym (shown-on new went.kept.on)) (subst (λ (j : Log). EndsAsTold new.config j w new.journal (begun_with new) (supply_of new)) journal went.exact);
  merged = subst (λ (j : Log). EndsMerged new.config j w new.journal) journal went.merged;
}
  where
    journal : told.journal ≡ record old.journal { past = mid.journal.past }
    journal = ap (λ (p : Parts). p.journal) rest ∙ a.journal

    left : length mid.slots.free ≡ length old.slots.free
    left = ap (λ (p : Parts). length p.slots.free) a.rest

    less : length new.slots.free ≤ length told.slots.free
    less = went.spends.fewer

-- it leaves room for the End
pub told-room : (old mid told : Parts) (w : ℕ) → HasActed old w mid → told ≡ record mid { slots = told.slots; workers = told.workers } → length old.journal.past + 3 ≤ old.config.marks → length told.journal.past < told.config.marks
told-room old mid told w a rest room =
    omega (arith, room, few (mark_of w a.made ∷ old.journal.past) mid.journal.past a.struck, ap (λ (p : Parts). length p.journal.past) rest, ap (λ (p : Parts). p.config.marks) rest, ap (λ (p : Parts). p.config.marks) a.rest)
  where
    few : (past new : List Mark) → IsStruck past new → length new ≤ length past + 1
    few past new (inl same) = omega (arith, ap (λ (marks : List Mark). length marks) same)
    few past new (inr struck) = omega (arith, ap (λ (marks : List Mark). length marks) struck.1.1)
