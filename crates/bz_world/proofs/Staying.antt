-- What is known of a worker stays by what others do.
use Rattle.std.proofs.Common.{◌≡◌, ◌⊎◌, ℕ, zero, ◌≤◌, if◌then◌else◌, Bool, true, false, List, [], ◌∷◌, length, slice_index, arith, refl, sym, ap, subst, ◌∙◌, inl, inr, Option, Some, None}
use Rattle.std.specs.Prelude.{get_or}
use Rattle.std.proofs.lemmas.Bool.{true≢false}
use Rattle.bz_call.specs.Map.{key_of}
use Rattle.bz_content.specs.Content.{image_of}
use Rattle.bz_layout.specs.declared.config.Config.{Config}
use Rattle.bz_layout.specs.declared.thresholds.TheConstants.{SPLIT_SLOTS}
use Rattle.bz_mark.specs.Log.{Log, with_mark}
use Rattle.bz_mark.proofs.MomentLaws.{at_moment-earlier}
use Rattle.bz_mark.specs.declared.marks.Mark.{Mark}
use Rattle.bz_rivals.specs.Wins.{GoesWell}
use Rattle.bz_any_task.specs.Duties.{needs_of, wants_of, facts_of}
use Rattle.bz_any_task.specs.declared.running.AnyTask.{AnyTask}
use Rattle.bz_stage.specs.FromLeaves.Neighbours.{leaf_page}
use Rattle.bz_sound.specs.Calls.{Open, open_call}
use Rattle.bz_sound.specs.Solitary.{IsSolitary}
use Rattle.bz_sound.specs.Memory.Moments.{map_at_start, image_after}
use Rattle.bz_sound.specs.Memory.OpenCallLaws.{EffectsStayOpen}
use Rattle.bz_sound.specs.Memory.Spent.{NeedsSlots, TakesSlots}
use Rattle.bz_refinement.specs.Laws.{HasBegun, ScenesAreSeen}
use Rattle.bz_refinement.specs.Living.{IsLiving}
use Rattle.bz_refinement.specs.Story.{Story, scene}
use Rattle.bz_swap.specs.SwapMemory.{SwapMemory, Doing, Idle, Reading, Swapping, Loading, Storing, Flushing, doing_of, has_effect}
use Rattle.bz_task.specs.Scene.{Scene, IsLawful, Waiting, Took}
use Rattle.bz_task.specs.declared.todo.Todo.{Todo}
use Rattle.bz_task.specs.declared.todo.Todo.TheVariants as todo
use Rattle.bz_world.specs.Inside.Alone.{WaitsUndisturbed, untold}
use Rattle.bz_world.specs.Inside.Due.{TakesRightly}
use Rattle.bz_world.specs.Inside.Exact.{CountsExactly, reach_of, underway}
use Rattle.bz_world.specs.Inside.Meant.{IsMeant}
use Rattle.bz_world.specs.Inside.Paid.{Stock, IsPaidIn, errand_of, no_extra, runner}
use Rattle.bz_world.specs.Inside.Serving.{IsServing, IsCovered, IsDoing, IsSlot, IsToldBy, IsWanted, NeedsAtLeast, MayGoOn, IsFinishing, effect_reply, stage_in, tells_of}
use Rattle.bz_world.specs.declared.serving.OpenCall.{OpenCall}
use Rattle.bz_world.proofs.Alone.{untold-by, waits-same}
use Rattle.bz_world.proofs.Exact.{reach-same}
use Rattle.bz_world.proofs.Meant.{call-meant-on}
use Rattle.bz_world.proofs.Powered.{looks-on}
use Rattle.bz_world.specs.Inside.Merging.{MergesDuly}

-- what a worker does is the same in two memories, and so is whether its swap has taken effect
pub record SameFor (m n : SwapMemory) (v : ℕ) : Type 0 where
  pub doing : doing_of n v ≡ doing_of m v
  pub begun : n.begun ≡ m.begun
  pub taken : n.taken ≡ m.taken
  pub size : length n.cached ≡ length m.cached
  pub effects : (s : ℕ) → doing_of m v ≡ Swapping s → has_effect n s ≡ has_effect m s

pub doing-stays : (m n : SwapMemory) (owners : List ℕ) (v : ℕ) (asked : Todo) → SameFor m n v → IsDoing m owners v asked → IsDoing n owners v asked
doing-stays m n owners v (todo.Read a) same d = same.doing ∙ d
doing-stays m n owners v (todo.Store a u) same d = (same.doing ∙ d.0, omega (arith, same.size, d.1))
doing-stays m n owners v (todo.Flush line) same d = (same.doing ∙ d.0, omega (arith, same.size, d.1))
doing-stays m n owners v (todo.Swap entries) same d = record {
  swap = d.swap;
  doing = same.doing ∙ d.doing;
  same = ap (λ z. get_or z d.swap []) same.begun ∙ d.same;
  owner = d.owner;
  begun = omega (arith, same.taken, d.begun);
  list = d.list;
}
doing-stays m n owners v (todo.Load a) same d = absurd d
doing-stays m n owners v todo.Finish same d = absurd d

stage-by : (m n : SwapMemory) (d : Doing) → ((s : ℕ) → d ≡ Swapping s → has_effect n s ≡ has_effect m s) → stage_in n d ≡ stage_in m d
stage-by m n Idle e = refl
stage-by m n (Reading a) e = refl
stage-by m n (Swapping s) e = ap (λ t. if t then Took else Waiting) (e s refl)
stage-by m n (Loading a) e = refl
stage-by m n (Storing a u) e = refl
stage-by m n (Flushing line) e = refl

pub stage-stays : (m n : SwapMemory) (v : ℕ) → SameFor m n v → stage_in n (doing_of n v) ≡ stage_in m (doing_of m v)
stage-stays m n v same = ap (stage_in n) same.doing ∙ stage-by m n (doing_of m v) same.effects

-- it has come as far
pub reach-stays : (m n : SwapMemory) (v : ℕ) → SameFor m n v → reach_of n v ≡ reach_of m v
reach-stays m n v same = reach-same n.taken (untold n (doing_of n v)) (underway (doing_of n v)) m.taken (untold m (doing_of m v)) (underway (doing_of m v)) same.taken (ap (untold n) same.doing ∙ untold-by m n (doing_of m v) same.effects) (ap underway same.doing)

-- a call whose change stands is finished as before, where its worker does what it did
pub finishing-stays : (m n : SwapMemory) (v : ℕ) (x : OpenCall) → doing_of n v ≡ doing_of m v → MayGoOn x ⊎ IsFinishing m v x → MayGoOn x ⊎ IsFinishing n v x
finishing-stays m n v x same (inl may) = inl may
finishing-stays m n v x same (inr f) = inr (record { publishing = f.publishing; swap = f.swap; doing = same ∙ f.doing })

-- what may not be stored into is no more as stores are made
pub covered-stays : (took later filled more : ℕ → Bool) (needs : ℕ) → ((k : ℕ) → later k ≡ took k) → ((k : ℕ) → filled k ≡ true → more k ≡ true) → IsCovered took filled needs → IsCovered later more needs
covered-stays took later filled more needs same grows c = record { unfilled = c.unfilled; few = c.few; all = λ k t f. c.all k (sym (same k) ∙ t) (still k f) }
  where
    still : (k : ℕ) → more k ≡ false → filled k ≡ false
    still k f = go (filled k) refl
      where
        go : (t : Bool) → filled k ≡ t → filled k ≡ false
        go false e = e
        go true e = absurd (true≢false (sym (grows k e) ∙ f))

-- where each slot that a worker took has been stored into, those that its task is to take are few enough
pub none-unfilled : (took filled : ℕ → Bool) (needs : ℕ) → needs ≤ SPLIT_SLOTS → ((k : ℕ) → took k ≡ true → filled k ≡ true) → IsCovered took filled needs
none-unfilled took filled needs few all = record { unfilled = []; few = omega (arith, few); all = λ k t f. absurd (true≢false (sym (all k t) ∙ f)) }

-- a mark that is a lawful step for a worker, and leaves what it does
pub record Leaves (c : Config) (m n : SwapMemory) (log : Log) (mark : Mark) (story after : Story) (v : ℕ) : Type 0 where
  pub same : SameFor m n v
  pub calls : open_call v (mark ∷ log.past) ≡ open_call v log.past
  pub from : after.from ≡ story.from
  pub lawful : (since : ℕ) (opened : Open) → HasBegun log story since → IsLawful (scene c log.past story v since opened) (scene c (mark ∷ log.past) after v since opened)
  pub took : (k : ℕ) → after.took v k ≡ story.took v k
  pub filled : (k : ℕ) → story.filled v k ≡ true → after.filled v k ≡ true
  pub alone : (since : ℕ) (opened : Open) (t : AnyTask) → since ≤ length log.past → WaitsUndisturbed m (doing_of m v) t (scene c log.past story v since opened).past → WaitsUndisturbed n (doing_of n v) t (scene c (mark ∷ log.past) after v since opened).past

-- the reply that tells its effect stays the map's
pub told-stays : EffectsStayOpen → (c : Config) (log : Log) (mark : Mark) (w : ℕ) (opened : Open) (had : Option (List ℕ)) → open_call w log.past ≡ Some opened → IsToldBy c log opened had → IsToldBy c (with_mark log mark) opened had
told-stays stay c log mark w opened had is told at e = (stay (map_at_start c log.start) log.past mark w at opened is e).same_reply (effect_reply opened.call had) (told at e)

-- and so does why its task takes slots
pub wanted-stays : (c : Config) (log : Log) (mark : Mark) (opened : Open) (task : AnyTask) → IsWanted c log opened task → IsWanted c (with_mark log mark) opened task
wanted-stays c log mark opened task why quiet some other =
    let w : NeedsAtLeast c log.start log.past opened (wants_of task) = why quiet some other in
    let n : NeedsSlots c log.start log.past opened w.slots = w.needs in
    record {
      slots = w.slots;
      enough = w.enough;
      needs = record {
        moment = n.moment;
        after_begin = n.after_begin;
        before_end = omega (arith, n.before_end);
        frozen = subst (λ (marks : List Mark). (leaf_page c (image_of (image_after log.start marks)) (key_of opened.call)).frozen ≡ true) (sym (at_moment-earlier n.moment mark log.past n.before_end)) n.frozen;
        needed = subst (λ (marks : List Mark). TakesSlots c (image_after log.start marks) (key_of opened.call) w.slots) (sym (at_moment-earlier n.moment mark log.past n.before_end)) n.needed;
      };
    }

-- it pays for what is to come one mark later
abbrev pub Pays : Config → SwapMemory → Log → Mark → Story → Story → List ℕ → Stock → Stock → SwapMemory → ℕ → Type 0
Pays c m log mark story after owners stock more n v = (x : OpenCall) (s : IsServing c m log story owners stock v x) → runner c (mark ∷ log.past) ≡ Some v
    → IsPaidIn c n (mark ∷ log.past) more v (errand_of x) x.task (untold n (doing_of n v)) no_extra (scene c (mark ∷ log.past) after v s.call_open.look.since s.opened).past

-- and what it has taken is right then
pub record TakesWell (c : Config) (m n : SwapMemory) (log : Log) (mark : Mark) (story after : Story) (owners : List ℕ) (stock more : Stock) (v : ℕ) (x : OpenCall) (s : IsServing c m log story owners stock v x) : Type 0 where
  pub rightly : TakesRightly c n.taken (with_mark log mark) more v x
  pub exactly : CountsExactly c (with_mark log mark) v s.opened (scene c (mark ∷ log.past) after v s.call_open.look.since s.opened).past (reach_of n v) more (tells_of x) x
  pub duly : MergesDuly c (with_mark log mark) v s.opened (scene c (mark ∷ log.past) after v s.call_open.look.since s.opened).past (reach_of n v) more x

abbrev pub Takes : Config → SwapMemory → Log → Mark → Story → Story → List ℕ → Stock → Stock → SwapMemory → ℕ → Type 0
Takes c m log mark story after owners stock more n v = (x : OpenCall) (s : IsServing c m log story owners stock v x) → TakesWell c m n log mark story after owners stock more v x s

-- of a call beside which another one is open nothing is to be known
pub none-takes-well : (c : Config) (m n : SwapMemory) (log : Log) (mark : Mark) (story after : Story) (owners : List ℕ) (stock more : Stock) (v : ℕ) → (IsSolitary v (mark ∷ log.past) → ⊥) → Takes c m log mark story after owners stock more n v
none-takes-well c m n log mark story after owners stock more v never x s = record { rightly = λ quiet solitary. absurd (never solitary); exactly = λ solitary room. absurd (never solitary); duly = λ solitary. absurd (never solitary) }

unfoldable pub serving-stays : ScenesAreSeen → EffectsStayOpen → (c : Config) (m n : SwapMemory) (log : Log) (mark : Mark) (story after : Story) (owners : List ℕ) (stock more : Stock) (v : ℕ) (x : OpenCall) → IsLiving c n (with_mark log mark) after → Leaves c m n log mark story after v
    → (s : IsServing c m log story owners stock v x)
    → (runner c (mark ∷ log.past) ≡ Some v → IsPaidIn c n (mark ∷ log.past) more v (errand_of x) x.task (untold n (doing_of n v)) no_extra (scene c (mark ∷ log.past) after v s.call_open.look.since s.opened).past)
    → TakesWell c m n log mark story after owners stock more v x s → IsServing c n (with_mark log mark) after owners more v x
serving-stays seen stay c m n log mark story after owners stock more v x living l s pays takes = record {
  opened = s.opened;
  call_open = record {
    is_open = l.calls ∙ s.call_open.is_open;
    call = s.call_open.call;
    effect = s.call_open.effect;
    look = looks-on log.past mark s.opened s.call_open.look;
    told = told-stays stay c log mark v s.opened x.had s.call_open.is_open s.call_open.told;
    wanted = wanted-stays c log mark s.opened x.task s.call_open.wanted;
  };
  tasked = s.tasked;
  asked = s.asked;
  asks = s.asks;
  doing = doing-stays m n owners v s.asked l.same s.doing;
  finishing = finishing-stays m n v x l.same.doing s.finishing;
  facts = subst (λ z. facts_of x.task z (scene c (mark ∷ log.past) after v s.call_open.look.since s.opened)) (sym (stage-stays m n v l.same))
      (s.tasked.laws.sound.stable (stage_in m (doing_of m v)) (scene c log.past story v s.call_open.look.since s.opened) (scene c (mark ∷ log.past) after v s.call_open.look.since s.opened) (sym s.tasked.config) s.facts
      (seen c n (with_mark log mark) after v s.call_open.look.since s.opened living (record { from = since; by_now = omega (arith, s.call_open.look.by_now) })).scene (l.lawful s.call_open.look.since s.opened (record { from = omega (arith, since, l.from); by_now = s.call_open.look.by_now })));
  covered = covered-stays (story.took v) (after.took v) (story.filled v) (after.filled v) (needs_of x.task) l.took l.filled s.covered;
  alone = l.alone s.call_open.look.since s.opened x.task s.call_open.look.by_now s.alone;
  meant = call-meant-on x (scene c log.past story v s.call_open.look.since s.opened).past (scene c (mark ∷ log.past) after v s.call_open.look.since s.opened).past s.tasked.laws
      (l.lawful s.call_open.look.since s.opened (record { from = omega (arith, since, l.from); by_now = s.call_open.look.by_now })).continues s.meant;
  paid = pays;
  due = takes.rightly;
  exact = takes.exactly;
  merges = takes.duly;
}
  where
    since : after.from ≤ s.call_open.look.since
    since = omega (arith, living.begins v s.opened (l.calls ∙ s.call_open.is_open), s.call_open.look.after_begin)

pub none-stays : (c : Config) (m n : SwapMemory) (log : Log) (mark : Mark) (story after : Story) (owners : List ℕ) (stock more : Stock) (v : ℕ) → Leaves c m n log mark story after v → IsSlot c m log story owners stock v None → IsSlot c n (with_mark log mark) after owners more v None
none-stays c m n log mark story after owners stock more v l s = record { none_open = l.calls ∙ s.none_open; idle = l.same.doing ∙ s.idle; filled = λ k t. l.filled k (s.filled k (sym (l.took k) ∙ t)) }

pub slot-stays : ScenesAreSeen → EffectsStayOpen → (c : Config) (m n : SwapMemory) (log : Log) (mark : Mark) (story after : Story) (owners : List ℕ) (stock more : Stock) (v : ℕ) (slot : Option OpenCall) → IsLiving c n (with_mark log mark) after → Leaves c m n log mark story after v
    → Pays c m log mark story after owners stock more n v → Takes c m log mark story after owners stock more n v → IsSlot c m log story owners stock v slot → IsSlot c n (with_mark log mark) after owners more v slot
slot-stays seen stay c m n log mark story after owners stock more v None living l pays takes s = none-stays c m n log mark story after owners stock more v l s
slot-stays seen stay c m n log mark story after owners stock more v (Some x) living l pays takes s = serving-stays seen stay c m n log mark story after owners stock more v x living l s (pays x s) (takes x s)

-- without a mark, in a memory in which a worker does the same
pub slot-same : (c : Config) (m n : SwapMemory) (log : Log) (story : Story) (owners others : List ℕ) (stock more : Stock) (v : ℕ) (slot : Option OpenCall) → SameFor m n v → ((s : ℕ) → doing_of m v ≡ Swapping s → GoesWell m s → GoesWell n s) → ((s : ℕ) → doing_of m v ≡ Swapping s → slice_index others s ≡ slice_index owners s)
    → (runner c log.past ≡ Some v → ⊥) → (IsSolitary v log.past → ⊥) → IsSlot c m log story owners stock v slot → IsSlot c n log story others more v slot
slot-same c m n log story owners others stock more v None same well table still beside s = record { none_open = s.none_open; idle = same.doing ∙ s.idle; filled = s.filled }
slot-same c m n log story owners others stock more v (Some x) same well table still beside s = record {
  opened = s.opened;
  call_open = assumption s.call_open;
  tasked = s.tasked;
  asked = s.asked;
  asks = s.asks;
  doing = doing-stays m n others v s.asked same (doing-by m owners others v s.asked table s.doing);
  finishing = finishing-stays m n v x same.doing s.finishing;
  facts = subst (λ z. facts_of x.task z (scene c log.past story v s.call_open.look.since s.opened)) (sym (stage-stays m n v same)) s.facts;
  covered = s.covered;
  alone = waits-same m n v x.task (scene c log.past story v s.call_open.look.since s.opened).past same.doing same.effects well s.alone;
  meant = s.meant;
  paid = λ steps. absurd (still steps);
  due = λ quiet solitary. absurd (beside solitary);
  exact = λ solitary room. absurd (beside solitary);
  merges = λ solitary. absurd (beside solitary);
}
  where
    doing-by : (m : SwapMemory) (owners others : List ℕ) (v : ℕ) (asked : Todo) → ((s : ℕ) → doing_of m v ≡ Swapping s → slice_index others s ≡ slice_index owners s) → IsDoing m owners v asked → IsDoing m others v asked
    doing-by m owners others v (todo.Read a) table d = d
    doing-by m owners others v (todo.Load a) table d = absurd d
    doing-by m owners others v (todo.Store a u) table d = d
    doing-by m owners others v (todo.Flush line) table d = d
    doing-by m owners others v todo.Finish table d = absurd d
    doing-by m owners others v (todo.Swap entries) table d = record { swap = d.swap; doing = d.doing; same = d.same; owner = table d.swap d.doing ∙ d.owner; begun = d.begun; list = d.list }

-- in another story that tells a worker the same
pub slot-scenes : (c : Config) (m : SwapMemory) (log : Log) (story after : Story) (owners : List ℕ) (stock more : Stock) (v : ℕ) (slot : Option OpenCall) (some : Open) → ((since : ℕ) (opened : Open) → scene c log.past after v since opened ≡ scene c log.past story v since opened)
    → ((k : ℕ) → after.filled v k ≡ story.filled v k) → (runner c log.past ≡ Some v → ⊥) → (IsSolitary v log.past → ⊥) → IsSlot c m log story owners stock v slot → IsSlot c m log after owners more v slot
slot-scenes c m log story after owners stock more v None some same filled still beside s = record { none_open = s.none_open; idle = s.idle; filled = λ k t. filled k ∙ s.filled k (sym (ap (λ (z : Scene). z.took k) (same zero some)) ∙ t) }
slot-scenes c m log story after owners stock more v (Some x) some same filled still beside s = record {
  opened = s.opened;
  call_open = assumption s.call_open;
  tasked = s.tasked;
  asked = s.asked;
  asks = s.asks;
  doing = s.doing;
  finishing = s.finishing;
  facts = subst (facts_of x.task (stage_in m (doing_of m v))) (sym (same s.call_open.look.since s.opened)) s.facts;
  covered = covered-stays (story.took v) (after.took v) (story.filled v) (after.filled v) (needs_of x.task) (λ k. ap (λ (z : Scene). z.took k) (same s.call_open.look.since s.opened)) (λ k e. filled k ∙ e) s.covered;
  alone = subst (λ (z : Scene). WaitsUndisturbed m (doing_of m v) x.task z.past) (sym (same s.call_open.look.since s.opened)) s.alone;
  meant = subst (λ (z : Scene). IsMeant x z.past) (sym (same s.call_open.look.since s.opened)) s.meant;
  paid = λ steps. absurd (still steps);
  due = λ quiet solitary. absurd (beside solitary);
  exact = λ solitary room. absurd (beside solitary);
  merges = λ solitary. absurd (beside solitary);
}
