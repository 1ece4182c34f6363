-- A task begins, and a round.
use Rattle.std.proofs.Common.{◌≡◌, ℕ, ◌+◌, ◌≤◌, false, arith, ap, refl, inl, sym, subst, ◌∙◌}
use Rattle.std.specs.Prelude.{Option, Some, None}
use Rattle.bz_joined.specs.FromAlone.Undisturbed.{IsUndisturbed}
use Rattle.bz_call.specs.declared.calls.Call.{Call}
use Rattle.bz_call.specs.declared.calls.Call.TheVariants as call
use Rattle.bz_costs.specs.Resources.{Resource, Marks, Descriptors, Slots}
use Rattle.bz_costs.specs.Laws.{TasksWeighLittle}
use Rattle.bz_costs.specs.Most.{most_of, most_of_seek}
use Rattle.bz_costs.specs.Weights.{start_takes, weigh}
use Rattle.bz_costs.specs.FromDescend.SeekFacts.{seek_reads}
use Rattle.bz_layout.specs.declared.config.Config.{Config}
use Rattle.bz_costs.specs.FromRunning.Duties.{end_of, left_of, made_of, needs_of, swaps_of, view_of}
use Rattle.bz_costs.specs.FromRunning.Kinds as kinds
use Rattle.bz_costs.specs.FromRunning.Kinds.{Kind, kind_of}
use Rattle.bz_costs.specs.FromRunning.AnyTask.{AnyTask}
use Rattle.bz_costs.specs.FromRunning.AnyTask.TheVariants.{Seeking}
use Rattle.bz_swap.specs.SwapMemory.{SwapMemory}
use Rattle.bz_task.specs.Scene.{Past}
use Rattle.bz_task.specs.declared.todo.Outcome.{Outcome}
use Rattle.bz_task.specs.declared.todo.Todo.TheVariants.{Read}
use Rattle.bz_solo.proofs.Sparing.{less-afforded}
use Rattle.bz_solo.specs.Errands.{Errand, IsLookOf}
use Rattle.bz_solo.specs.Prices.{prices_in, coming, round_price}
use Rattle.bz_solo.specs.Rounds.{IsBegunAt, TasksMayBegin, RoundsBegin}
use Rattle.bz_solo.specs.Sum.{Round, Disturbed, Clean, In, IsIn, IsSmall, reserve, prices_of, left_in}

goes-on : (t : AnyTask) (o : Outcome) → end_of t ≡ None → end_of t ≡ Some o → ⊥
goes-on t o goes ended = cc

begun-in : (e : Errand) (t : AnyTask) (p : Past) → end_of t ≡ None → made_of t ≡ 0 → (e.effected ≡ false → kind_of t ≡ kinds.Merge → IsUndisturbed 0 p → IsSmall e p) → (round : Round) → (round ≡ Clean → IsUndisturbed 0 p) → IsIn (In round) e t 0 p
begun-in e t p goes none small Disturbed alone = tt
begun-in e t p goes none small Clean alone = record {
  made = 0;
  alone = alone refl;
  counts = λ _. omega (arith, none);
  none = λ _. refl;
  before = λ _ _. refl;
  goes = λ _ done. goes-on t _ goes done;
  stands = goes-on t _ goes;
  small = λ quiet merge. small quiet merge (alone refl);
}

pub tasks-begin : (r : Resource) → TasksWeighLittle r → TasksMayBegin r
tasks-begin r little m w e t used by p goes none within look small s = record {
  look = look;
  thawed = s.thawed;
  state = In s.round;
  holds = begun-in e t p goes none small s.round s.alone;
  affords = less-afforded r m w e used by (reserve r s.round + (most_of r t + coming r (prices_of r s.round e p) e (kind_of t))) (0 + left_in r (In s.round) e t p)
      (lighter (reserve r s.round) (weigh r t) (most_of r t) (coming r (prices_of r s.round e p) e (kind_of t)) (little t within)) s.affords;
}
  where
    lighter : (spare own most price : ℕ) → own ≤ most → 0 + (spare + (own + price)) ≤ spare + (most + price)
    lighter spare own most price l = omega (arith, l)

-- a look-up swaps nothing, and takes no slot
seek-swaps : (t : AnyTask) → kind_of t ≡ kinds.Seek → swaps_of t ≡ 0
unfolding kind_of view_of
seek-swaps (Seeking t) k = refl
seek-swaps t k = absurd (cc)

seek-needs : (t : AnyTask) → kind_of t ≡ kinds.Seek → needs_of t ≡ 0
unfolding kind_of view_of
seek-needs (Seeking t) k = refl
seek-needs t k = absurd (cc)

-- its first read and those that follow are no more than its weight at its begin
seek-paid : (r : Resource) (t : AnyTask) (a : ℕ) → kind_of t ≡ kinds.Seek → left_of t ≤ seek_reads → start_takes r (Read a) + weigh r t ≤ most_of_seek r
seek-paid Marks t a k few = omega (arith, few, seek-swaps t k)
seek-paid Descriptors t a k few = omega (arith, seek-swaps t k)
seek-paid Slots t a k few = omega (arith, seek-needs t k)

seek-made : (t : AnyTask) → kind_of t ≡ kinds.Seek → made_of t ≡ 0
unfolding kind_of view_of
seek-made (Seeking t) k = refl
seek-made t k = absurd (cc)

seek-looks : (called : Call) (k : Kind) → k ≡ kinds.Seek → IsLookOf called k
seek-looks (call.Get key) k is = inl is
seek-looks (call.Page key) k is = inl is
seek-looks called k is = tt

no-merge : (k : Kind) → k ≡ kinds.Seek → k ≡ kinds.Merge → ⊥
no-merge k seek merge = cc

module _ (r : Resource) (m : SwapMemory) (w : ℕ) (e : Errand) (t : AnyTask) (used by : ℕ) (p q : Past) (b : IsBegunAt t p q) where
  same-price : coming r (prices_in r q.config (q.at q.now).image e) e (kind_of t) ≡ coming r (prices_in r p.config (p.at p.now).image e) e kinds.Seek
  same-price =
      ap (λ (c : Config). coming r (prices_in r c (q.at q.now).image e) e (kind_of t)) b.config
      ∙ ap (λ (image : ℕ → ℕ). coming r (prices_in r p.config image e) e (kind_of t)) b.image
      ∙ ap (λ (k : Kind). coming r (prices_in r p.config (p.at p.now).image e) e k) b.kind

  enough : (a : ℕ) → start_takes r (Read a) + left_in r (In Clean) e t q ≤ round_price r (prices_in r p.config (p.at p.now).image e) e
  enough a = few (start_takes r (Read a)) (weigh r t) (most_of_seek r) (coming r (prices_in r q.config (q.at q.now).image e) e (kind_of t)) (coming r (prices_in r p.config (p.at p.now).image e) e kinds.Seek) same-price (seek-paid r t a b.kind b.left)
    where
      few : (first own most now before : ℕ) → now ≡ before → first + own ≤ most → first + (0 + (own + now)) ≤ most + before
      few first own most now before same l = omega (arith, same, l)

  alone : IsUndisturbed 0 q
  alone = omega (arith, ap (λ (n : ℕ). (q.at n).effects) b.since)

pub rounds-begin : (r : Resource) → RoundsBegin r
rounds-begin r m w e t used by a p q b pays = record {
  look = λ _. seek-looks e.call (kind_of t) b.kind;
  thawed = pays.thawed;
  state = In Clean;
  holds = begun-in e t q b.goes (seek-made t b.kind) (λ _ merge. absurd (no-merge (kind_of t) b.kind merge)) Clean (λ _. alone r m w e t used by p q b);
  affords = less-afforded r m w e used by _ _ (enough r m w e t used by p q b a) pays.affords;
}
