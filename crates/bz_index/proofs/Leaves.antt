-- What a turn leaves: the list grew by entries of its pass or of nobody.
use Rattle.std.proofs.Common.{◌≡◌, ℕ, zero, suc, ◌+◌, ◌<◌, ◌⊎◌, inl, inr, ⊎_elim, false, List, [], ◌∷◌, ◌++◌, length, reverse, refl, sym, ap, ◌∙◌, subst, arith, append_assoc, get_or}
use Rattle.std.specs.Prelude.{All}
use Rattle.bz_swap_acts.specs.declared.acted.Act.{Act}
use Rattle.bz_swap_acts.specs.declared.acted.Act.TheVariants as act
use Rattle.bz_bus.specs.Entries.{MayLeave}
use Rattle.bz_bus.specs.declared.TheConstants.{PASSES}
use Rattle.bz_index.specs.Entries.{has_page, maker_of, owner_of, entries_in}
use Rattle.bz_index.specs.declared.shared.IndexEntry.{IndexEntry}
use Rattle.bz_index.proofs.Lists.{told-quiet, Paged, paged}
use Rattle.bz_mark.specs.Log.{Log, with_mark, count_page_ends}
use Rattle.bz_mark.specs.declared.marks.Mark.{Mark}
use Rattle.bz_mark.specs.declared.marks.Mark.TheVariants.{End, Ready, Effect}
use Rattle.bz_world.specs.WorldView.{WorldView, mark_of, IsStruck, IsEnding, GoesOn, Steps, EndsRecovery, Recovers}
use Rattle.bz_world.specs.declared.answers.Applied.{Applied}
use Rattle.bz_world.specs.declared.answers.Applied.TheVariants as applied

abbrev pub Leaves : ℕ → Log → Log → Type 0
Leaves n old new = MayLeave owner_of n (entries_in old) (entries_in new)

-- whose an entry may be
abbrev IsBy : ℕ → IndexEntry → Type 0
IsBy n entry = (owner_of entry ≡ n) ⊎ (owner_of entry ≡ PASSES)

all_none : (n : ℕ) → All (IsBy n) []
all_none n = λ k d h. absurd (omega arith)

all_more : (n : ℕ) (entry : IndexEntry) (entries : List IndexEntry) → IsBy n entry → All (IsBy n) entries → (k : ℕ) (d : IndexEntry) → k < length (entry ∷ entries) → IsBy n (get_or (entry ∷ entries) k d)
all_more n entry entries by all zero d h = by
all_more n entry entries by all (suc k) d h = all k d (omega arith)

all_joined : (n : ℕ) (xs ys : List IndexEntry) → All (IsBy n) xs → All (IsBy n) ys → All (IsBy n) (xs ++ ys)
all_joined n [] ys a b = b
all_joined n (x ∷ xs) ys a b = all_more n x (xs ++ ys) (a 0 x (omega arith)) (all_joined n xs ys (λ k d h. a (suc k) d (omega arith)) b)

pub leaves-same : (n : ℕ) (old new : Log) → new ≡ old → Leaves n old new
leaves-same n old new same = record { added = []; is = ap entries_in same; owned = all_none n }

pub leaves-trans : (n : ℕ) (xs ys zs : List IndexEntry) → MayLeave owner_of n xs ys → MayLeave owner_of n ys zs → MayLeave owner_of n xs zs
leaves-trans n xs ys zs a b = record {
  added = b.added ++ a.added;
  is = b.is ∙ (ap (λ (l : List IndexEntry). b.added ++ l) a.is ∙ sym (append_assoc b.added a.added xs));
  owned = all_joined n b.added a.added b.owned a.owned;
}

-- what nobody's entries leave anyone may leave
pub leaves-any : (n : ℕ) (xs ys : List IndexEntry) → MayLeave owner_of PASSES xs ys → MayLeave owner_of n xs ys
leaves-any n xs ys a = record { added = a.added; is = a.is; owned = λ k d h. inr (⊎_elim (λ e. e) (λ e. e) (a.owned k d h)) }

leaves-one : (n : ℕ) (entry : IndexEntry) (xs ys : List IndexEntry) → ys ≡ entry ∷ xs → IsBy n entry → MayLeave owner_of n xs ys
leaves-one n entry xs ys is by = record { added = entry ∷ []; is = is; owned = all_more n entry [] by (all_none n) }

-- a mark without a page
pub leaves-mark : (n : ℕ) (mark : Mark) (log : Log) → has_page mark ≡ false → (maker_of mark ≡ n) ⊎ (maker_of mark ≡ PASSES) → Leaves n log (with_mark log mark)
leaves-mark n mark log quiet by = leaves-one n (record { mark = mark; page = [] }) _ _ (told-quiet mark log.past (reverse log.pages) quiet) by

act-quiet : (w : ℕ) (made : Act) → has_page (mark_of w made) ≡ false
act-quiet w (act.Load a v) = refl
act-quiet w (act.Store a v) = refl
act-quiet w (act.Cas a old new found) = refl
act-quiet w (act.Ask line) = refl
act-quiet w act.Fence = refl

act-nobodys : (w : ℕ) (made : Act) → maker_of (mark_of w made) ≡ PASSES
act-nobodys w (act.Load a v) = refl
act-nobodys w (act.Store a v) = refl
act-nobodys w (act.Cas a old new found) = refl
act-nobodys w (act.Ask line) = refl
act-nobodys w act.Fence = refl

pub leaves-act : (w : ℕ) (made : Act) (log : Log) → Leaves PASSES log (with_mark log (mark_of w made))
leaves-act w made log = leaves-mark PASSES (mark_of w made) log (act-quiet w made) (inr (act-nobodys w made))

-- an effect may follow
pub leaves-struck : (log : Log) (past new : List Mark) → IsStruck past new → Leaves PASSES (record log { past = past }) (record log { past = new })
leaves-struck log past new (inl same) = leaves-same PASSES _ _ (ap (λ (p : List Mark). record log { past = p }) same)
leaves-struck log past new (inr (w, (n, is))) =
    subst (λ (p : List Mark). Leaves PASSES (record log { past = past }) (record log { past = p })) (sym is) (leaves-mark PASSES (Effect w n) (record log { past = past }) refl (inr refl))

-- an act and what it brings are nobody's
pub leaves-acted : (w : ℕ) (made : Act) (log : Log) (struck : List Mark) → IsStruck (mark_of w made ∷ log.past) struck → Leaves PASSES log (record log { past = struck })
leaves-acted w made log struck effect = leaves-trans PASSES _ _ _ (leaves-act w made log) (leaves-struck log (mark_of w made ∷ log.past) struck effect)

-- what an End adds
pub ends_paged : (old : Log) (w n : ℕ) (new : Log) (ends : IsEnding old w n new) → Paged (End w n ends.reply ends.at) old.pages ends.added old.past
ends_paged old w n new ends =
    paged (End w n ends.reply ends.at) old.pages ends.added old.past (subst (λ (log : Log). count_page_ends log.past ≡ count_page_ends old.past + length ends.added) ends.is ends.pages)

pub told-ending : (old : Log) (w n : ℕ) (new : Log) (ends : IsEnding old w n new)
    → entries_in new ≡ record { mark = End w n ends.reply ends.at; page = (ends_paged old w n new ends).page } ∷ entries_in old
told-ending old w n new ends = ap entries_in ends.is ∙ (ends_paged old w n new ends).is

leaves-ending : (old : Log) (w n : ℕ) (new : Log) → IsEnding old w n new → Leaves w old new
leaves-ending old w n new ends = leaves-one w _ _ _ (told-ending old w n new ends) (inl refl)

leaves-going : (old : Log) (w : ℕ) (answer : Applied) (new : Log) → GoesOn old w answer new → Leaves w old new
leaves-going old w applied.Stepped new goes = leaves-same w old new goes
leaves-going old w (applied.Ended n) new goes = leaves-ending old w n new goes
leaves-going old w other new goes = absurd goes

pub leaves-steps : (old : WorldView) (w : ℕ) (answer : Applied) (new : WorldView) → Steps old w answer new → Leaves w old.log new.log
leaves-steps old w answer new steps =
    leaves-trans w _ _ _ (leaves-any w _ _ (leaves-acted w steps.made old.log steps.struck steps.effect)) (leaves-going (record old.log { past = steps.struck }) w answer new.log steps.ends)

leaves-recovering : (old : Log) (answer : Applied) (new : Log) → EndsRecovery old answer new → Leaves 0 old new
leaves-recovering old applied.Stepped new goes = leaves-same 0 old new goes
leaves-recovering old applied.Ready new goes = subst (Leaves 0 old) (sym goes) (leaves-mark 0 Ready old refl (inl refl))
leaves-recovering old other new goes = absurd goes

pub leaves-recovers : (old : WorldView) (answer : Applied) (new : WorldView) → Recovers old answer new → Leaves 0 old.log new.log
leaves-recovers old answer new steps = leaves-trans 0 _ _ _ (leaves-any 0 _ _ (leaves-act 0 steps.made old.log)) (leaves-recovering _ answer new.log steps.ends)
