-- A call whose worker may be alone, from one moment to the next: the swaps of others are counted, and where there are none its own goes
-- well.
use Rattle.std.proofs.Common.{◌≡◌, ◌≢◌, ℕ, suc, ◌+◌, ◌≤◌, if◌then◌else◌, Bool, true, false, List, [], ◌∷◌, length, arith, refl, sym, ap, subst, ◌∙◌, Option, Some, None}
use Rattle.std.specs.Prelude.{get_or}
use Rattle.std.proofs.lemmas.Bool.{true≢false}
use Rattle.std.proofs.lemmas.List.Elements.{All-from_get_or, All-get_or, All-same}
use Rattle.bz_swap_acts.specs.declared.acted.Act.{Act}
use Rattle.bz_solo.specs.FromAlone.Counts.{HasOthers, OwnSwapsAreCounted}
use Rattle.bz_layout.specs.declared.config.Config.{Config}
use Rattle.bz_swap_machine.specs.declared.done.Done.{Done}
use Rattle.bz_mark.specs.declared.marks.Mark.{Mark}
use Rattle.bz_rivals.specs.Wins.{Stand, GoesWell, OwnSwapsWin}
use Rattle.bz_any_task.specs.Duties.{config_of, made_of, facts_of}
use Rattle.bz_any_task.specs.declared.running.AnyTask.{AnyTask}
use Rattle.bz_sound.specs.Calls.{Open}
use Rattle.bz_refinement.specs.Story.{Story, scene, and_then}
use Rattle.bz_swap.specs.Effects.{NoneTakesEffect}
use Rattle.bz_swap.specs.Steps.{IsStep}
use Rattle.bz_swap.specs.SwapMemory.{SwapMemory, Doing, Idle, Reading, Swapping, Loading, Storing, Flushing, doing_of, value_at, has_effect, is_missed, entries_of}
use Rattle.bz_swap.proofs.AtomicValues.{entry-named}
use Rattle.bz_task.specs.Instant.{Instant}
use Rattle.bz_task.specs.Requests.{IsCause, effects_in}
use Rattle.bz_task.specs.Scene.{Past, Scene, Waiting, IsScene}
use Rattle.bz_task.specs.declared.todo.Seen.{Seen}
use Rattle.bz_task.specs.declared.todo.Seen.TheVariants as seen
use Rattle.bz_task.specs.declared.todo.Todo.{Todo}
use Rattle.bz_task.specs.declared.todo.Todo.TheVariants as todo
use Rattle.bz_word.specs.declared.entry.Entry.{Entry}
use Rattle.bz_world.specs.Inside.Alone.{untold, DoesWell, WaitsUndisturbed, HearsUndisturbed}
use Rattle.bz_world.proofs.Solitary.{now-is, before-is}

-- what is no swap has no effect that is not told, and goes well
pub none-untold : (m : SwapMemory) (d : Doing) → ((s : ℕ) → d ≢ Swapping s) → untold m d ≡ 0
none-untold m Idle none = refl
none-untold m (Reading a) none = refl
none-untold m (Swapping s) none = absurd (none s refl)
none-untold m (Loading a) none = refl
none-untold m (Storing a u) none = refl
none-untold m (Flushing line) none = refl

pub none-well : (m : SwapMemory) (d : Doing) → ((s : ℕ) → d ≢ Swapping s) → DoesWell m d
none-well m Idle none = tt
none-well m (Reading a) none = tt
none-well m (Swapping s) none = absurd (none s refl)
none-well m (Loading a) none = tt
none-well m (Storing a u) none = tt
none-well m (Flushing line) none = tt

-- in a memory in which it has had its effect as before, and still goes well
pub untold-by : (m n : SwapMemory) (d : Doing) → ((s : ℕ) → d ≡ Swapping s → has_effect n s ≡ has_effect m s) → untold n d ≡ untold m d
untold-by m n Idle e = refl
untold-by m n (Reading a) e = refl
untold-by m n (Swapping s) e = ap (λ (t : Bool). if t then 1 else 0) (e s refl)
untold-by m n (Loading a) e = refl
untold-by m n (Storing a u) e = refl
untold-by m n (Flushing line) e = refl

well-by : (m n : SwapMemory) (d : Doing) → ((s : ℕ) → d ≡ Swapping s → GoesWell m s → GoesWell n s) → DoesWell m d → DoesWell n d
well-by m n Idle e h = tt
well-by m n (Reading a) e h = tt
well-by m n (Swapping s) e h = e s refl h
well-by m n (Loading a) e h = tt
well-by m n (Storing a u) e h = tt
well-by m n (Flushing line) e h = tt

-- so it does by what is quiet, and notes no miss of it
blank : Entry
blank = record { target = 0; expected = 0; new = 0 }

pub well-quiet : (old new : SwapMemory) (s : ℕ) → NoneTakesEffect old new → new.begun ≡ old.begun → is_missed new s ≡ false → GoesWell old s → GoesWell new s
well-quiet old new s quiet begun unnoted well = record { unnoted = unnoted; stands = stands }
  where
    still : Stand old (entries_of old s) → Stand new (entries_of old s)
    still was = All-from_get_or (λ (e : Entry). value_at new e.target ≡ e.expected) (entries_of old s) blank
        (λ i l. quiet.values (get_or (entries_of old s) i blank).target (entry-named old s i blank l) ∙ All-get_or (λ (e : Entry). value_at old e.target ≡ e.expected) (entries_of old s) i blank l was)

    stands : has_effect new s ≡ false → Stand new (entries_of new s)
    stands without = All-same (λ (e : Entry). value_at new e.target ≡ e.expected) (entries_of new s) (entries_of old s) (ap (λ (l : List (List Entry)). get_or l s []) begun) (still (well.stands (sym (quiet.swaps s) ∙ without)))

-- as is an act, of whichever worker, at which no swap takes effect
pub well-acted : OwnSwapsWin → (old new : SwapMemory) (w : ℕ) (made : Act) (done : Done) (s : ℕ) → IsStep old w made done None new → GoesWell old s → GoesWell new s
well-acted wins old new w made done s step well = well-quiet old new s step.effect step.one.others.begun (wins.unnoted old new w made done None s step well) well

-- one moment later so many more swaps took effect
sums : (now before since made others own rest more : ℕ) → now ≡ before + more → before ≡ since + made + others → own + rest ≡ made + others + more → now ≡ since + own + rest
sums now before since made others own rest more up was both = omega (arith, up, was, both)

pub others-on : (c : Config) (past : List Mark) (mark : Mark) (story after : Story) (v since : ℕ) (opened later : Open) (y : Instant) (others made rest own more : ℕ) → after.at ≡ and_then story.at (length past) y → since ≤ length past
    → y.effects ≡ (story.at (length past)).effects + more → own + rest ≡ made + others + more → HasOthers others made (scene c past story v since opened).past → HasOthers rest own (scene c (mark ∷ past) after v since later).past
others-on c past mark story after v since opened later y others made rest own more is l up both was =
    subst (λ (at : ℕ → Instant). (at (suc (length past))).effects ≡ (at since).effects + own + rest) (sym is)
    (ap (λ (x : Instant). x.effects) (now-is story.at (length past) y)
    ∙ (sums y.effects (story.at (length past)).effects (story.at since).effects made others own rest more up was both
    ∙ ap (λ (x : Instant). x.effects + own + rest) (sym (before-is story.at (length past) since y l))))

-- without a mark
pub waits-same : (m n : SwapMemory) (v : ℕ) (t : AnyTask) (p : Past) → doing_of n v ≡ doing_of m v → ((s : ℕ) → doing_of m v ≡ Swapping s → has_effect n s ≡ has_effect m s) → ((s : ℕ) → doing_of m v ≡ Swapping s → GoesWell m s → GoesWell n s)
    → WaitsUndisturbed m (doing_of m v) t p → WaitsUndisturbed n (doing_of n v) t p
waits-same m n v t p does effects well h = subst (λ (d : Doing). WaitsUndisturbed n d t p) (sym does) (record {
  others = h.others;
  counted = subst (λ k. HasOthers h.others (made_of t + k) p) (sym (untold-by m n (doing_of m v) effects)) h.counted;
  well = λ none. well-by m n (doing_of m v) well (h.well none);
  waited = h.waited;
})

module _ (c : Config) (m n : SwapMemory) (past : List Mark) (mark : Mark) (story after : Story) (v since : ℕ) (opened later : Open) (t : AnyTask) (y : Instant) (is : after.at ≡ and_then story.at (length past) y) (l : since ≤ length past)
    (h : WaitsUndisturbed m (doing_of m v) t (scene c past story v since opened).past) where
  -- by a mark at which no swap takes effect
  pub waits-on : y.effects ≡ (story.at (length past)).effects → doing_of n v ≡ doing_of m v → ((s : ℕ) → doing_of m v ≡ Swapping s → has_effect n s ≡ has_effect m s) → ((s : ℕ) → doing_of m v ≡ Swapping s → GoesWell m s → GoesWell n s)
      → WaitsUndisturbed n (doing_of n v) t (scene c (mark ∷ past) after v since later).past
  waits-on same does effects well = subst (λ (d : Doing). WaitsUndisturbed n d t (scene c (mark ∷ past) after v since later).past) (sym does) (record {
    others = h.others;
    counted = others-on c past mark story after v since opened later y h.others (made_of t + untold m (doing_of m v)) h.others (made_of t + untold n (doing_of m v)) 0 is l (omega (arith, same)) (omega (arith, untold-by m n (doing_of m v) effects)) h.counted;
    well = λ none. well-by m n (doing_of m v) well (h.well none);
    waited = h.waited;
  })

  -- at which another's does: it is alone no more
  pub waits-beside : y.effects ≡ (story.at (length past)).effects + 1 → doing_of n v ≡ doing_of m v → ((s : ℕ) → doing_of m v ≡ Swapping s → has_effect n s ≡ has_effect m s) → WaitsUndisturbed n (doing_of n v) t (scene c (mark ∷ past) after v since later).past
  waits-beside more does effects = subst (λ (d : Doing). WaitsUndisturbed n d t (scene c (mark ∷ past) after v since later).past) (sym does) (record {
    others = h.others + 1;
    counted = others-on c past mark story after v since opened later y h.others (made_of t + untold m (doing_of m v)) (h.others + 1) (made_of t + untold n (doing_of m v)) 1 is l more (omega (arith, untold-by m n (doing_of m v) effects)) h.counted;
    well = λ none. absurd (omega (arith, none));
    waited = h.waited;
  })

  -- or its own
  pub waits-struck : (s : ℕ) → y.effects ≡ (story.at (length past)).effects + 1 → doing_of m v ≡ Swapping s → doing_of n v ≡ Swapping s → has_effect m s ≡ false → has_effect n s ≡ true → (GoesWell m s → is_missed n s ≡ false)
      → WaitsUndisturbed n (doing_of n v) t (scene c (mark ∷ past) after v since later).past
  waits-struck s more was now before done unnoted = record {
    others = h.others;
    counted = others-on c past mark story after v since opened later y h.others (made_of t + untold m (doing_of m v)) h.others (made_of t + untold n (doing_of n v)) 1 is l more (omega (arith, none-yet, one-now)) h.counted;
    well = λ none. subst (DoesWell n) (sym now) (record { unnoted = unnoted (subst (DoesWell m) was (h.well none)); stands = λ without. absurd (true≢false (sym done ∙ without)) });
    waited = h.waited;
  }
    where
      none-yet : untold m (doing_of m v) ≡ 0
      none-yet = ap (untold m) was ∙ ap (λ (b : Bool). if b then 1 else 0) before

      one-now : untold n (doing_of n v) ≡ 1
      one-now = ap (untold n) now ∙ ap (λ (b : Bool). if b then 1 else 0) done

  -- or by an act that answers it
  pub hears-on : (what : Seen) → y.effects ≡ (story.at (length past)).effects → untold m (doing_of m v) ≡ effects_in what → (DoesWell m (doing_of m v) → what ≢ seen.Swapped false) → HearsUndisturbed t what (scene c (mark ∷ past) after v since later).past
  hears-on what same told wins = record {
    others = h.others;
    counted = others-on c past mark story after v since opened later y h.others (made_of t + untold m (doing_of m v)) h.others (made_of t + effects_in what) 0 is l (omega (arith, same)) (omega (arith, told)) h.counted;
    wins = λ none. wins (h.well none);
    waited = h.waited;
  }

-- a task that is told something else than what came of a swap
pub hears-now : OwnSwapsAreCounted → (t : AnyTask) (s : Scene) → IsScene s → s.past.config ≡ config_of t → facts_of t Waiting s → (what : Seen) → effects_in what ≡ 0 → what ≢ seen.Swapped false → HearsUndisturbed t what s.past
hears-now law t s good config facts what none other =
    let told : (others : ℕ) × HasOthers others (made_of t) s.past = law t s good facts in
    record {
      others = told.0;
      counted = omega (arith, told.1, none);
      wins = λ alone. other;
      waited = record { scene = s; config = config; facts = facts };
    }

-- what makes a task begin again tells no effect
pub cause-none : (asked : Option Todo) (what : Seen) (s : Scene) → IsCause asked what s → effects_in what ≡ 0
cause-none (Some (todo.Read a)) (seen.Read v) s c = refl
cause-none asked what s c = absurd c
