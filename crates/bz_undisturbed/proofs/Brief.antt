-- A look-up during which no other call is open is brief.
use Rattle.std.proofs.Common.{◌≡◌, ◌≢◌, ℕ, zero, suc, ◌≤◌, ◌==◌, ◌&&◌, Bool, true, false, not, List, length, Option, Some, None, arith, refl, sym, ap, subst, ◌∙◌, inl, inr}
use Rattle.bz_content.specs.Content.{leaf_in}
use Rattle.bz_content.specs.Image.{node}
use Rattle.bz_content.specs.Resolving.{resolve}
use Rattle.bz_any_task.specs.FromFind.Facts.{find_reads}
use Rattle.bz_layout.specs.declared.config.Config.{Config}
use Rattle.bz_swap_machine.specs.Allowed.{sum_below, counted}
use Rattle.bz_rivals.specs.Rivals.{is_pending, is_rival, is_own, foreign}
use Rattle.bz_rivals.proofs.Proved.{rivals_fall}
use Rattle.bz_any_task.specs.Duties.{asks_of, change_of}
use Rattle.bz_any_task.specs.LookingUp.{ForWay, ForKey, NoLook, look_of, reads_asked, IsReadOrEnd}
use Rattle.bz_any_task.specs.declared.running.AnyTask.{AnyTask}
use Rattle.bz_any_task.specs.declared.running.AnyTask.TheVariants.{Seeking, Finding, Reading as ReadsLeaf, Inserting, Updating, Deleting, Freezing, Consolidating, Splitting, SplittingBelow, SplittingInner, SplittingInnerRoot, Merging, MergingInner, Lowering}
use Rattle.bz_swap.specs.Solo.{allowed_while, allowed_to_all, left_to}
use Rattle.bz_swap.specs.SwapMemory.{SwapMemory, Doing, Reading, doing_of}
use Rattle.bz_swap.proofs.Proved.{solo_steps_are_allowed}
use Rattle.bz_task.specs.Requests.{Tells}
use Rattle.bz_task.specs.Scene.{Scene, Waiting}
use Rattle.bz_task.specs.declared.path.Path.{Path}
use Rattle.bz_task.specs.declared.todo.Seen.TheVariants.{Swapped}
use Rattle.bz_task.specs.declared.todo.Todo.{Todo}
use Rattle.bz_task.specs.declared.todo.Todo.TheVariants.{Read, Load, Store, Flush, Swap, Finish}
use Rattle.bz_undisturbed.specs.Undisturbed.{IsUndisturbed}
use Rattle.bz_undisturbed.specs.Brief.{AllIdle, LooksFor, LookUpsAreBrief, WaysAreBrief, BriefLookUpsGoOn, GetsAreBrief}
use Rattle.bz_any_task.specs.Duties.{made_of, view_of}
use Rattle.bz_undisturbed.specs.Reads.{get_reads}
use Rattle.bz_undisturbed.proofs.Tasks.{undisturbed-tasks-go-on}
use Rattle.bz_undisturbed.proofs.Ways.{paths-read-few}

sum-none : (f : ℕ → ℕ) (n : ℕ) → ((v : ℕ) → f v ≡ 0) → sum_below f n ≡ 0
sum-none f zero h = refl
sum-none f (suc n) h = omega (arith, sum-none f n h, h n)

no-rival : (m : SwapMemory) (w v : ℕ) → AllIdle m → counted (is_rival m w v) 1 ≡ 0
no-rival m w v h = go (not (v == w)) (is_pending m (doing_of m v)) (ap (is_pending m) (h v))
  where
    go : (a b : Bool) → b ≡ false → counted (a && b) 1 ≡ 0
    go true true e = absurd (cc)
    go true false e = refl
    go false b e = refl

-- nobody else has a swap under way where nobody does anything, and nothing is left to anybody
none-left : (m : SwapMemory) (w : ℕ) → AllIdle m → left_to m w ≡ 0
none-left m w h =
    let all : allowed_to_all m ≡ 0 = sum-none (λ v. allowed_while (doing_of m v)) (length m.workers) (λ v. ap allowed_while (h v)) in
    omega (arith, solo_steps_are_allowed.most m w, all)

-- an effect that is told to a worker which reads is foreign
untold : (m : SwapMemory) (w : ℕ) (doing : Doing) (a : ℕ) (told : Option ℕ) → doing_of m w ≡ doing → doing ≡ Reading a → foreign m w told ≡ 0 → told ≡ None
untold m w doing a None d e z = refl
untold m w doing a (Some s) d e z =
    let own : is_own (doing_of m w) s ≡ false = ap (λ x. is_own x s) (d ∙ e) in
    let one : foreign m w (Some s) ≡ 1 = ap (λ x. counted (not x) 1) own in
    absurd (omega (arith, z, one))

looks-some : (key : List ℕ) (way : Option Path) (t : AnyTask) → LooksFor key way t → look_of t ≢ NoLook
looks-some key None t l e = let q : ForWay ≡ NoLook = sym l ∙ e in cc q
looks-some key (Some path) t l e = let q : ForKey ≡ NoLook = sym l.0 ∙ e in cc q

looks-on : (key : List ℕ) (way : Option Path) (t u : AnyTask) → look_of u ≡ look_of t → change_of u ≡ change_of t → LooksFor key way t → LooksFor key way u
looks-on key None t u l c h = l ∙ h
looks-on key (Some path) t u l c h = (l ∙ h.0, ap (λ x. x.key) c ∙ h.1, h.2)

pub look-ups-are-brief : LookUpsAreBrief
look-ups-are-brief = record {
  begins = λ m w a key t idle look one. record {
    looks = look;
    calm = rivals_fall.start m w (Reading a) ∙ sum-none (λ v. counted (is_rival m w v) 1) (length m.workers) (λ v. no-rival m w v idle);
    few = omega (arith, solo_steps_are_allowed.start m w (Reading a), none-left m w idle, one);
  };
  step = λ old new w a made done told acts key way t reads st h.
      let fall = rivals_fall.step old new w made done told st in (
        untold old w (Reading a) a told reads refl (omega (arith, fall, h.calm)),
        record {
          looks = h.looks;
          calm = omega (arith, fall, h.calm);
          few = omega (arith, h.few, st.one.spent);
        },
      );
  eviction = λ old new w a c told acts key way t on reads ev h.
      let fall = rivals_fall.eviction old new w a told on ev in (
        untold old w (Reading c) c told reads refl (omega (arith, fall, h.calm)),
        record {
          looks = h.looks;
          calm = omega (arith, fall, h.calm);
          few = omega (arith, h.few, solo_steps_are_allowed.eviction old new w a told ev);
        },
      );
  told = λ m w acts key way t u todo counts change h. record {
    looks = looks-on key way t u counts.look change h.looks;
    calm = h.calm;
    few = omega (arith, h.few, counts.reads (looks-some key way t h.looks));
  };
  reads = λ m w acts key way t u a counts change h. record {
    looks = looks-on key way t u counts.look change h.looks;
    calm = rivals_fall.start m w (Reading a) ∙ h.calm;
    few = omega (arith, h.few, solo_steps_are_allowed.start m w (Reading a), counts.reads (looks-some key way t h.looks));
  };
}

pub ways-are-brief : WaysAreBrief
ways-are-brief m w acts key path t u s h few facts e look none same last = record {
  looks = (look, same, last);
  calm = h.calm;
  few = omega (arith, h.few, few.path path s facts e, none);
}

-- a look-up makes no swap
none-made : (t : AnyTask) → look_of t ≢ NoLook → made_of t ≡ 0
unfolding view_of look_of
none-made (Seeking t) l = refl
none-made (Finding t) l = refl
none-made (ReadsLeaf t) l = absurd (l refl)
none-made (Inserting t) l = absurd (l refl)
none-made (Updating t) l = absurd (l refl)
none-made (Deleting t) l = absurd (l refl)
none-made (Freezing t) l = absurd (l refl)
none-made (Consolidating t) l = absurd (l refl)
none-made (Splitting t) l = absurd (l refl)
none-made (SplittingBelow t a) l = absurd (l refl)
none-made (SplittingInner t a) l = absurd (l refl)
none-made (SplittingInnerRoot t a) l = absurd (l refl)
none-made (Merging t) l = absurd (l refl)
none-made (MergingInner t) l = absurd (l refl)
none-made (Lowering t) l = absurd (l refl)

-- and is told of none
no-swap : (asks : Option Todo) (s : Scene) → ((todo : Todo) → asks ≡ Some todo → IsReadOrEnd todo) → Tells asks Waiting (Swapped false) s → ⊥
no-swap None s h t = t
no-swap (Some (Read a)) s h t = t
no-swap (Some (Load a)) s h t = h (Load a) refl
no-swap (Some (Store a v)) s h t = t
no-swap (Some (Flush line)) s h t = t
no-swap (Some (Swap entries)) s h t = h (Swap entries) refl
no-swap (Some Finish) s h t = t

pub brief-look-ups-go-on : BriefLookUpsGoOn
brief-look-ups-go-on t u seen moment free left todo s config good facts alone look few tells heard e = elim (heard.goes.restart e) [
  | inl q ↦ no-swap (asks_of t) s (λ x a. few.asks x look a) (subst (λ x. Tells (asks_of t) Waiting x s) q tells)
  | inr d ↦ (undisturbed-tasks-go-on t s config good facts (subst (λ n. IsUndisturbed n s.past) (sym (none-made t look)) alone)).same seen tells d
]

pub gets-are-brief : GetsAreBrief
unfolding get_reads
gets-are-brief m w acts key path t view s h few good alone facts e is on =
    let c : Config = s.past.config in
    let raw : ℕ → ℕ = (s.past.at view.at).image in
    let way = paths-read-few s key path h.looks.2.0 view.at good alone on h.looks.2.1 (record { from = is.since; to = is.now }) in
    let found : reads_asked t ≤ find_reads (node c (resolve raw) (leaf_in c raw key)) key =
    subst (λ k. reads_asked t ≤ find_reads (node c (resolve raw) k) key) (sym is.leaf) (subst (λ k. reads_asked t ≤ find_reads (node c (resolve raw) view.slot) k) h.looks.1 (few.found view s facts e)) in
    omega (arith, h.few, way, found)
