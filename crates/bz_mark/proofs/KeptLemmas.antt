-- The tables after one mark more, with what the code says of it as premises.
use Rattle.std.proofs.Common.{◌≡◌, ◌<◌, ◌≤◌, ℕ, zero, suc, ◌-◌, map, get_or, ◌+◌, List, [], ◌∷◌, ◌++◌, length, refl, ap, sym, ◌∙◌, arith, length-append}
use Rattle.std.proofs.lemmas.Grind.{common_steps}
use Rattle.bz_call.specs.declared.calls.Call.{Call}
use Rattle.bz_call.specs.declared.replies.Reply.{Reply}
use Rattle.bz_mark.specs.declared.marks.Mark.{Mark}
use Rattle.bz_mark.specs.declared.marks.Mark.TheVariants as mark
use Rattle.bz_mark.specs.declared.compact.CompactMark.{CompactMark}
use Rattle.bz_mark.specs.declared.compact.CompactMark.TheVariants.{Begin, End}
use Rattle.bz_mark.specs.Log.{count_begins, count_ends}
use Rattle.std.specs.Prelude.{Some}
use Rattle.std.proofs.lemmas.Option.{slice_get-get_or}
use Rattle.std.proofs.lemmas.List.{get_or-reverse, get_or-map}
use Rattle.bz_mark.specs.Moments.{mark_at}
use Rattle.bz_mark.specs.Tables.{whole, IsPlaced, ArePlaced, past_of, IsPlain, plain_mark}
use Rattle.bz_mark.specs.Kept.{AreTables}
use Rattle.bz_mark.proofs.TableLemmas.{past-begin, past-end, past-plain, placed_more, plain_placed}

longer : {A : Type 0} (xs : List A) (x : A) → length (xs ++ x ∷ []) ≡ length xs + 1
longer xs x = length-append xs (x ∷ [])

pub begin_past : (calls calls' : List Call) (replies : List Reply) (ms ms' : List CompactMark) (w n place : ℕ) (call : Call) → AreTables calls replies ms
    → calls' ≡ calls ++ call ∷ [] → ms' ≡ ms ++ Begin w n place ∷ [] → place ≡ length calls → past_of calls' replies ms' ≡ mark.Begin w n call ∷ past_of calls replies ms
begin_past calls calls' replies ms ms' w n place call h c m p = rw (c, m, p) (past-begin calls replies ms w n call h.placed)

pub begin_tables : (calls calls' : List Call) (replies : List Reply) (ms ms' : List CompactMark) (w n place : ℕ) (call : Call) → AreTables calls replies ms
    → calls' ≡ calls ++ call ∷ [] → ms' ≡ ms ++ Begin w n place ∷ [] → place ≡ length calls → AreTables calls' replies ms'
begin_tables calls calls' replies ms ms' w n place call h c m p =
    let past : past_of calls' replies ms' ≡ mark.Begin w n call ∷ past_of calls replies ms = begin_past calls calls' replies ms ms' w n place call h c m p in
    let more : length calls' ≡ length calls + 1 = ap length c ∙ longer calls call in
    record {
      placed = rw m (placed_more (length calls) (length replies) (length calls') (length replies) ms (Begin w n place) (omega arith) (omega arith) h.placed (omega arith));
      begins = more ∙ ap (λ k. k + 1) h.begins ∙ ap count_begins (sym past);
      ends = h.ends ∙ ap count_ends (sym past);
    }

pub end_past : (calls : List Call) (replies replies' : List Reply) (ms ms' : List CompactMark) (w n place at : ℕ) (reply : Reply) → AreTables calls replies ms
    → replies' ≡ replies ++ reply ∷ [] → ms' ≡ ms ++ End w n place at ∷ [] → place ≡ length replies → past_of calls replies' ms' ≡ mark.End w n reply at ∷ past_of calls replies ms
end_past calls replies replies' ms ms' w n place at reply h r m p = rw (r, m, p) (past-end calls replies ms w n at reply h.placed)

pub end_tables : (calls : List Call) (replies replies' : List Reply) (ms ms' : List CompactMark) (w n place at : ℕ) (reply : Reply) → AreTables calls replies ms
    → replies' ≡ replies ++ reply ∷ [] → ms' ≡ ms ++ End w n place at ∷ [] → place ≡ length replies → AreTables calls replies' ms'
end_tables calls replies replies' ms ms' w n place at reply h r m p =
    let past : past_of calls replies' ms' ≡ mark.End w n reply at ∷ past_of calls replies ms = end_past calls replies replies' ms ms' w n place at reply h r m p in
    let more : length replies' ≡ length replies + 1 = ap length r ∙ longer replies reply in
    record {
      placed = rw m (placed_more (length calls) (length replies) (length calls) (length replies') ms (End w n place at) (omega arith) (omega arith) h.placed (omega arith));
      begins = h.begins ∙ ap count_begins (sym past);
      ends = more ∙ ap (λ k. k + 1) h.ends ∙ ap count_ends (sym past);
    }

plain_begins : (m : CompactMark) (past : List Mark) → IsPlain m → count_begins (plain_mark m ∷ past) ≡ count_begins past
plain_begins (Begin w n place) past h = absurd h
plain_begins (End w n place at) past h = absurd h
plain_begins m past h = refl

plain_ends : (m : CompactMark) (past : List Mark) → IsPlain m → count_ends (plain_mark m ∷ past) ≡ count_ends past
plain_ends (Begin w n place) past h = absurd h
plain_ends (End w n place at) past h = absurd h
plain_ends m past h = refl

pub plain_tables : (calls : List Call) (replies : List Reply) (ms ms' : List CompactMark) (m : CompactMark) → AreTables calls replies ms
    → ms' ≡ ms ++ m ∷ [] → IsPlain m → AreTables calls replies ms'
plain_tables calls replies ms ms' m h is plain =
    let past : past_of calls replies ms' ≡ plain_mark m ∷ past_of calls replies ms = rw is (past-plain calls replies ms m plain) in
    record {
      placed = rw is (placed_more (length calls) (length replies) (length calls) (length replies) ms m (omega arith) (omega arith) h.placed (plain_placed (length calls) (length replies) m plain));
      begins = h.begins ∙ sym (plain_begins m (past_of calls replies ms) plain) ∙ ap count_begins (sym past);
      ends = h.ends ∙ sym (plain_ends m (past_of calls replies ms) plain) ∙ ap count_ends (sym past);
    }

-- there are as many marks as compact ones
pub length-past : (calls : List Call) (replies : List Reply) (ms : List CompactMark) → length (past_of calls replies ms) ≡ length ms
length-past calls replies ms = grind (arith, common_steps)

-- a list with one item more still fits
pub fits_more : {A : Type 0} (xs xs' : List A) (x : A) (most : ℕ) → xs' ≡ xs ++ x ∷ [] → length xs < most → length xs' ≤ most
fits_more xs xs' x most is h = omega (arith, ap length is ∙ longer xs x)

-- no marks need no tables
pub no_tables : (calls : List Call) (replies : List Reply) (ms : List CompactMark) → calls ≡ [] → replies ≡ [] → ms ≡ [] → AreTables calls replies ms
no_tables calls replies ms c r m = rw (c, r, m) (record { placed = tt; begins = refl; ends = refl })

placed_at : (c r : ℕ) (ms : List CompactMark) (i : ℕ) (m : CompactMark) → ArePlaced c r ms → i < length ms → m ≡ get_or ms i m → IsPlaced c r m
placed_at c r [] i m h l is = absurd (omega arith)
placed_at c r (x ∷ ms) zero m h l is = rw is h.0
placed_at c r (x ∷ ms) (suc i) m h l is = placed_at c r ms i m h.1 (omega arith) is

-- what stands at a place of the list is what the compact mark there stands for
pub placed_mark : (calls : List Call) (replies : List Reply) (ms : List CompactMark) (i : ℕ) (m : CompactMark) → AreTables calls replies ms
    → i < length ms → m ≡ get_or ms i m → IsPlaced (length calls) (length replies) m
placed_mark calls replies ms i m h l is = placed_at (length calls) (length replies) ms i m h.placed l is

pub mark_at-past : (calls : List Call) (replies : List Reply) (ms : List CompactMark) (i : ℕ) (m : CompactMark) → i < length ms → m ≡ get_or ms i m
    → mark_at i (past_of calls replies ms) ≡ Some (whole calls replies m)
mark_at-past calls replies ms i m l is =
    let all = length-past calls replies ms in
    let here : length (map (whole calls replies) ms) ≡ length ms = grind (arith, common_steps) in
    slice_get-get_or (past_of calls replies ms) (length (past_of calls replies ms) - (i + 1)) (whole calls replies m) (omega arith)
    ∙ ap Some (get_or-reverse (map (whole calls replies) ms) (length (past_of calls replies ms) - (i + 1)) (whole calls replies m) (omega arith)
    ∙ ap (λ k. get_or (map (whole calls replies) ms) k (whole calls replies m)) (omega arith)
    ∙ get_or-map (whole calls replies) ms i m (whole calls replies m) l
    ∙ ap (whole calls replies) (sym is))
