-- What a writer asks for after an answer is as its contract says.
use Rattle.std.proofs.Common.{◌≡◌, ◌≢◌, ℕ, ◌+◌, ◌*◌, ◌<◌, ◌≤◌, if◌then◌else◌, Bool, true, false, arith, refl, sym, ap, subst, inl, inr, Option}
use Rattle.std.specs.Prelude.{nat_lt, length, Some, None}
use Rattle.std.proofs.lemmas.Bool.Decides.{nat_tests}
use Rattle.bz_layout.specs.Slots.{FreeSlots}
use Rattle.bz_layout.specs.declared.config.Config.{Config}
use Rattle.bz_layout.specs.declared.sizes.TheConstants.{NODE_WORDS, NODE_LINES}
use Rattle.bz_task.specs.Contract.{GoesOn}
use Rattle.bz_task.specs.OwnActs.{AreTakenFrom}
use Rattle.bz_task.specs.Requests.{Hears, swaps_in, steps_in, effects_in}
use Rattle.bz_task.specs.Scene.{Scene}
use Rattle.bz_task.specs.declared.todo.Outcome.{Outcome}
use Rattle.bz_task.specs.declared.todo.Outcome.TheVariants.{Done as IsDone, Restart as Restarts, Full as IsFull}
use Rattle.bz_call.specs.declared.replies.Spent.TheVariants.{Nodes as NoNodes, Swaps as NoSwaps}
use Rattle.bz_task.specs.declared.todo.Seen.{Seen}
use Rattle.bz_task.specs.declared.todo.Seen.TheVariants.{Start, Read as Was, Stored, Flushed, Swapped, NoSwap as NoneLeft}
use Rattle.bz_task.specs.declared.todo.Todo.{Todo}
use Rattle.bz_renew.specs.Nodes.{AreSlotsTaken}
use Rattle.bz_writer.specs.Facts.{write_asks, write_view}
use Rattle.bz_writer.specs.Phases.{IsWithin, HasLooked, means_of, write_end, write_left, write_swaps, write_needs, write_next, store_after, flush_after}
use Rattle.bz_writer.specs.Plans.{Plan, IsSamePlan}
use Rattle.bz_writer.specs.declared.phase.WritePhase.{WritePhase}
use Rattle.bz_writer.specs.declared.phase.WritePhase.TheVariants.{Fresh, Guard, Store, Flush, Swap, Done, Restart, NoSlot, NoSwap}

pub same-plan : (P : Plan) → IsSamePlan P P
same-plan P = record { count = refl; basis = refl; done = λ p d. d; none = λ p d. d }

some-none : {A : Type 0} (a : A) (e : Option A) → e ≡ None → e ≡ Some a → ⊥
some-none a e none some = absurd (cc)

module _ (c : Config) (P Q : Plan) (seen : Seen) (free left : FreeSlots) (same : IsSamePlan P Q) where
  meant : (outcome : Outcome) (s : Scene) → means_of Q.done Q.none outcome s → means_of P.done P.none outcome s
  meant IsDone s m = same.done s.past m
  meant (IsFull NoNodes) s m = same.none s.past m
  meant outcome s m = m

  -- an answer after which it goes on, to an act that is no swap's
  goes : (o p : WritePhase) (todo : Todo) → write_asks c Q p ≡ Some todo → write_end p ≡ None → write_left Q.nodes.count p + steps_in (write_asks c Q p) ≤ write_left P.nodes.count o → write_swaps p + swaps_in (write_asks c P o) ≤ write_swaps o
      → AreTakenFrom (write_needs P.nodes.count o) (write_needs Q.nodes.count p) free left → seen ≢ Swapped true → seen ≢ NoneLeft → effects_in seen ≡ 0 → GoesOn (write_view c P o) (write_view c Q p) seen free left todo
  goes o p todo asked none nearer fewer slots no_swap some no_effect = record {
    asked = asked;
    nearer = nearer;
    fewer = fewer;
    counted = λ e. omega (arith, no_effect);
    config = refl;
    change = refl;
    basis = same.basis;
    meant = meant;
    slots = slots;
    kept = λ outcome e. absurd (some-none outcome (write_end p) none e);
    begins = λ outcome start e. absurd (some-none outcome (write_end p) none e);
    last = λ e one. absurd (no_swap e);
    only_last = λ e. absurd (some-none IsDone (write_end p) none e);
    done = λ e. absurd (some-none IsDone (write_end p) none e);
    published = λ e. absurd (cc);
    restart = λ e. absurd (some-none Restarts (write_end p) none e);
    no_swap = λ e. absurd (some e);
    full_swaps = λ e. absurd (some-none (IsFull NoSwaps) (write_end p) none e);
    full_nodes = λ e. absurd (some-none (IsFull NoNodes) (write_end p) none e);
  }

-- an answer to a store, a flush or the swap
module _ (c : Config) (P : Plan) (free : FreeSlots) where
  none-taken : AreTakenFrom 0 0 free free
  none-taken = inr (record { fewer = omega arith; slots = refl })

  after-store : (j : ℕ) → j < NODE_WORDS * P.nodes.count → (todo : Todo) → write_asks c P (store_after P.nodes.count j) ≡ Some todo → GoesOn (write_view c P (Store j)) (write_view c P (store_after P.nodes.count j)) Stored free free todo
  after-store j l = choose (nat_lt (j + 1) (NODE_WORDS * P.nodes.count)) refl
    where
      choose : (b : Bool) → nat_lt (j + 1) (NODE_WORDS * P.nodes.count) ≡ b → (todo : Todo) → write_asks c P (if b then Store (j + 1) else Flush 0) ≡ Some todo → GoesOn (write_view c P (Store j)) (write_view c P (if b then Store (j + 1) else Flush 0)) Stored free free todo
      choose true e todo asked = goes c P P Stored free free (same-plan P) (Store j) (Store (j + 1)) todo asked refl (omega (arith, l)) (omega arith) none-taken (λ z. absurd (cc)) (λ z. absurd (cc)) refl
      choose false e todo asked = goes c P P Stored free free (same-plan P) (Store j) (Flush 0) todo asked refl (omega (arith, l)) (omega arith) none-taken (λ z. absurd (cc)) (λ z. absurd (cc)) refl

  after-fence : (j : ℕ) → j < NODE_LINES * P.nodes.count → (todo : Todo) → write_asks c P (flush_after P.nodes.count j) ≡ Some todo → GoesOn (write_view c P (Flush j)) (write_view c P (flush_after P.nodes.count j)) Flushed free free todo
  after-fence j l = choose (nat_lt (j + 1) (NODE_LINES * P.nodes.count)) refl
    where
      choose : (b : Bool) → nat_lt (j + 1) (NODE_LINES * P.nodes.count) ≡ b → (todo : Todo) → write_asks c P (if b then Flush (j + 1) else Swap) ≡ Some todo → GoesOn (write_view c P (Flush j)) (write_view c P (if b then Flush (j + 1) else Swap)) Flushed free free todo
      choose true e todo asked =
          let more : j + 1 < NODE_LINES * P.nodes.count = grind (arith, nat_tests) in
          goes c P P Flushed free free (same-plan P) (Flush j) (Flush (j + 1)) todo asked refl (omega (arith, more)) (omega arith) none-taken (λ z. absurd (cc)) (λ z. absurd (cc)) refl
      choose false e todo asked = goes c P P Flushed free free (same-plan P) (Flush j) Swap todo asked refl (omega (arith, l)) (omega arith) none-taken (λ z. absurd (cc)) (λ z. absurd (cc)) refl

  won : (todo : Todo) → write_asks c P Done ≡ Some todo → GoesOn (write_view c P Swap) (write_view c P Done) (Swapped true) free free todo
  won todo asked = record {
    asked = asked;
    nearer = omega arith;
    fewer = omega arith;
    counted = λ e. absurd (cc);
    config = refl;
    change = refl;
    basis = refl;
    meant = λ outcome s m. m;
    slots = none-taken;
    kept = λ outcome e. refl;
    begins = λ outcome start e. absurd (cc);
    last = λ e one. refl;
    only_last = λ e. refl;
    done = λ e. refl;
    published = λ e. absurd (cc);
    restart = λ e. absurd (cc);
    no_swap = λ e. absurd (cc);
    full_swaps = λ e. absurd (cc);
    full_nodes = λ e. absurd (cc);
  }

  lost : (todo : Todo) → write_asks c P Restart ≡ Some todo → GoesOn (write_view c P Swap) (write_view c P Restart) (Swapped false) free free todo
  lost todo asked = record {
    asked = asked;
    nearer = omega arith;
    fewer = omega arith;
    counted = λ e. absurd (cc);
    config = refl;
    change = refl;
    basis = refl;
    meant = λ outcome s m. m;
    slots = none-taken;
    kept = λ outcome e. refl;
    begins = λ outcome start e. absurd (cc);
    last = λ e one. absurd (cc);
    only_last = λ e. absurd (cc);
    done = λ e. absurd (cc);
    published = λ e. absurd (cc);
    restart = λ e. inl refl;
    no_swap = λ e. absurd (cc);
    full_swaps = λ e. absurd (cc);
    full_nodes = λ e. absurd (cc);
  }

  no-descriptor : (todo : Todo) → write_asks c P NoSwap ≡ Some todo → GoesOn (write_view c P Swap) (write_view c P NoSwap) NoneLeft free free todo
  no-descriptor todo asked = record {
    asked = asked;
    nearer = omega arith;
    fewer = omega arith;
    counted = λ e. absurd (cc);
    config = refl;
    change = refl;
    basis = refl;
    meant = λ outcome s m. m;
    slots = none-taken;
    kept = λ outcome e. refl;
    begins = λ outcome start e. absurd (cc);
    last = λ e one. absurd (cc);
    only_last = λ e. absurd (cc);
    done = λ e. absurd (cc);
    published = λ e. absurd (cc);
    restart = λ e. absurd (cc);
    no_swap = λ e. refl;
    full_swaps = λ e. refl;
    full_nodes = λ e. absurd (cc);
  }

  pub goes-after : (o : WritePhase) (seen : Seen) → o ≢ Fresh → o ≢ Guard → IsWithin P.nodes.count o → Hears (write_asks c P o) seen → (todo : Todo) → write_asks c P (write_next P.nodes.count o seen) ≡ Some todo
      → GoesOn (write_view c P o) (write_view c P (write_next P.nodes.count o seen)) seen free free todo
  goes-after (Store j) Stored begun looked l h todo asked = after-store j l todo asked
  goes-after (Flush j) Flushed begun looked l h todo asked = after-fence j l todo asked
  goes-after Swap (Swapped true) begun looked l h todo asked = won todo asked
  goes-after Swap (Swapped false) begun looked l h todo asked = lost todo asked
  goes-after Swap NoneLeft begun looked l h todo asked = no-descriptor todo asked
  goes-after Fresh seen begun looked l h todo asked = absurd (begun refl)
  goes-after Guard seen begun looked l h todo asked = absurd (looked refl)
  goes-after o seen begun looked l h todo asked = absurd (h)

  -- told to begin
  pub goes-first : (seen : Seen) → Hears (write_asks c P Fresh) seen → (todo : Todo) → write_asks c P Guard ≡ Some todo → GoesOn (write_view c P Fresh) (write_view c P Guard) seen free free todo
  goes-first Start h todo asked = goes c P P Start free free (same-plan P) Fresh Guard todo asked refl (omega arith) (omega arith) (inr (record { fewer = omega arith; slots = refl })) (λ z. absurd (cc)) (λ z. absurd (cc)) refl
  goes-first seen h todo asked = absurd (h)

-- another look at the guard
module _ (c : Config) (P Q : Plan) (seen : Seen) (old new : FreeSlots) (same : IsSamePlan P Q) (some : 0 < P.nodes.count) where
  hears-read : Hears (write_asks c P Guard) seen → (seen ≢ Swapped true) × ((seen ≢ NoneLeft) × ((seen ≢ Start) × (effects_in seen ≡ 0)))
  hears-read h = go seen h
    where
      go : (told : Seen) → Hears (write_asks c P Guard) told → (told ≢ Swapped true) × ((told ≢ NoneLeft) × ((told ≢ Start) × (effects_in told ≡ 0)))
      go (Was v) h = ((λ e. absurd (cc)), ((λ e. absurd (cc)), ((λ e. absurd (cc)), refl)))
      go told h = absurd (h)

  other-value : Hears (write_asks c P Guard) seen → seen ≢ Was P.status → (write_view c P Guard).differs seen
  other-value h ne = go seen h ne
    where
      go : (told : Seen) → Hears (write_asks c P Guard) told → told ≢ Was P.status → (write_view c P Guard).differs told
      go (Was v) h ne = λ e. ne (ap Was e)
      go told h ne = absurd (h)

  begins : (j : ℕ) → j ≡ 0 → AreSlotsTaken (record { count = P.nodes.count; slot = Q.nodes.slot; image = Q.nodes.image }) old new → Hears (write_asks c P Guard) seen → (todo : Todo) → write_asks c Q (Store j) ≡ Some todo → GoesOn (write_view c P Guard) (write_view c Q (Store j)) seen old new todo
  begins j first taken h todo asked =
      let heard = hears-read h in
      goes c P Q seen old new same Guard (Store j) todo asked refl (omega (arith, first, same.count)) (omega arith)
      (inl (record { some = some; enough = taken.enough; slots = taken.rest; none_left = refl })) heard.0 heard.1.0 heard.1.1.1

  no-slots : length old.free < P.nodes.count → Hears (write_asks c P Guard) seen → (todo : Todo) → write_asks c Q NoSlot ≡ Some todo → GoesOn (write_view c P Guard) (write_view c Q NoSlot) seen old old todo
  no-slots few h todo asked =
      let heard = hears-read h in record {
        asked = asked;
        nearer = omega arith;
        fewer = omega arith;
        counted = λ e. absurd (cc);
        config = refl;
        change = refl;
        basis = same.basis;
        meant = meant c P Q seen old old same;
        slots = inr (record { fewer = omega arith; slots = refl });
        kept = λ outcome e. refl;
        begins = λ outcome start e. absurd (heard.1.1.0 start);
        last = λ e one. absurd (heard.0 e);
        only_last = λ e. absurd (cc);
        done = λ e. absurd (cc);
        published = λ e. absurd (cc);
        restart = λ e. absurd (cc);
        no_swap = λ e. absurd (heard.1.0 e);
        full_swaps = λ e. absurd (cc);
        full_nodes = λ e. few;
      }

  differs : seen ≢ Was P.status → Hears (write_asks c P Guard) seen → (todo : Todo) → write_asks c Q Restart ≡ Some todo → GoesOn (write_view c P Guard) (write_view c Q Restart) seen old old todo
  differs ne h todo asked =
      let heard = hears-read h in record {
        asked = asked;
        nearer = omega arith;
        fewer = omega arith;
        counted = λ e. absurd (cc);
        config = refl;
        change = refl;
        basis = same.basis;
        meant = meant c P Q seen old old same;
        slots = inr (record { fewer = omega arith; slots = refl });
        kept = λ outcome e. refl;
        begins = λ outcome start e. absurd (heard.1.1.0 start);
        last = λ e one. absurd (heard.0 e);
        only_last = λ e. absurd (cc);
        done = λ e. absurd (cc);
        published = λ e. absurd (cc);
        restart = λ e. inr (other-value h ne);
        no_swap = λ e. absurd (heard.1.0 e);
        full_swaps = λ e. absurd (cc);
        full_nodes = λ e. absurd (cc);
      }

  pub goes-look : (p : WritePhase) → HasLooked P.nodes.count P.status Q.nodes.slot seen p old new → Hears (write_asks c P Guard) seen → (todo : Todo) → write_asks c Q p ≡ Some todo → GoesOn (write_view c P Guard) (write_view c Q p) seen old new todo
  goes-look (Store j) l h todo asked = begins j l.1.0 (l.1.1 Q.nodes.image) h todo asked
  goes-look NoSlot l h todo asked = subst (λ z. GoesOn (write_view c P Guard) (write_view c Q NoSlot) seen old z todo) (sym l.1.1) (no-slots l.1.0 h todo asked)
  goes-look Restart l h todo asked = subst (λ z. GoesOn (write_view c P Guard) (write_view c Q Restart) seen old z todo) (sym l.1) (differs l.0 h todo asked)
  goes-look p l h todo asked = absurd (l)
