-- While a call is open fewer calls have ended than have begun. Of a kind of calls those that are open and those that have
-- ended are no more than those that have begun.
use Rattle.std.proofs.Common.{◌≡◌, ◌≤◌, ◌<◌, ◌+◌, ◌==◌, ℕ, Bool, true, false, List, [], ◌∷◌, length, refl, sym, ap, ◌∙◌, arith, Option, Some, None}
use Rattle.std.specs.Prelude.{if◌then◌else◌, option_map, IsSomeAnd}
use Rattle.std.proofs.lemmas.Bool.Decides.{nat_tests}
use Rattle.bz_layout.specs.declared.config.Config.{Config}
use Rattle.bz_call.specs.Pages.{is_page, names_page}
use Rattle.bz_call.specs.declared.calls.Call.{Call}
use Rattle.bz_call.specs.declared.replies.Reply.{Reply}
use Rattle.bz_call.specs.declared.replies.Reply.TheVariants as reply
use Rattle.bz_call.specs.declared.replies.Spent.{Spent}
use Rattle.bz_mark.specs.Log.{Log, count_begins, count_ends, count_page_calls, count_page_ends}
use Rattle.bz_mark.specs.declared.marks.Mark.{Mark}
use Rattle.bz_mark.specs.declared.marks.Mark.TheVariants.{Begin, End, Cut, Effect}
use Rattle.bz_sound.specs.Calls.{Open, open_call, with_effect}
use Rattle.bz_sound.specs.Replies.{Pages}
use Rattle.bz_sound.specs.Memory.Moments.{map_at_start, EachMark}
use Rattle.bz_sound.specs.Memory.OpenCallLaws.{LeavesRoom, OpenCallsLeaveRoom}
use Rattle.bz_sound.specs.Memory.Replies.{Answer, IsAnswerBy, IsRightReplyBy, HasRightReplyBy}
use Rattle.bz_sound.specs.Memory.Spent.{IsSpent}
use Rattle.bz_sound.proofs.Memory.Counts.{passing, none-passing, without-one}
use Rattle.bz_sound.proofs.Memory.Balance.{more, begin-balance, end-balance}
use Rattle.bz_sound.proofs.Memory.NeverTold.{never-page}
use Rattle.bz_sound.proofs.Memory.Standing.{CallsStand, Stands, unbroken-stands}

-- how many calls of a kind have begun, and how many have ended with a reply of a kind
abbrev begins : (Call → Bool) → List Mark → ℕ
begins kind [] = 0
begins kind (Begin w n call ∷ past) = if kind call then begins kind past + 1 else begins kind past
begins kind (mark ∷ past) = begins kind past

abbrev ends : (Reply → Bool) → List Mark → ℕ
ends told [] = 0
ends told (End w n reply at ∷ past) = if told reply then ends told past + 1 else ends told past
ends told (mark ∷ past) = ends told past

all-begins : (past : List Mark) → begins (λ call. true) past ≡ count_begins past
all-begins [] = refl
all-begins (Begin w n call ∷ past) = ap (λ (k : ℕ). k + 1) (all-begins past)
all-begins (mark ∷ past) = all-begins past

all-ends : (past : List Mark) → ends (λ reply. true) past ≡ count_ends past
all-ends [] = refl
all-ends (End w n reply at ∷ past) = ap (λ (k : ℕ). k + 1) (all-ends past)
all-ends (mark ∷ past) = all-ends past

page-begins : (past : List Mark) → begins is_page past ≡ count_page_calls past
page-begins [] = refl
page-begins (Begin w n call ∷ past) = ap (λ (k : ℕ). if is_page call then k + 1 else k) (page-begins past)
page-begins (mark ∷ past) = page-begins past

page-ends : (past : List Mark) → ends names_page past ≡ count_page_ends past
page-ends [] = refl
page-ends (End w n reply at ∷ past) = ap (λ (k : ℕ). if names_page reply then k + 1 else k) (page-ends past)
page-ends (mark ∷ past) = page-ends past

-- a worker's open call is of the kind
abbrev is-kind : (Call → Bool) → Option Open → Bool
is-kind kind None = false
is-kind kind (Some opened) = kind opened.call

abbrev asks : (Call → Bool) → List Mark → ℕ → Bool
asks kind past v = is-kind kind (open_call v past)

-- the open call after a mark of its own worker, and of another
own : {A : Type 0} (v : ℕ) (fresh rest : A) → (if v == v then fresh else rest) ≡ fresh
own v fresh rest = let same : (v == v) ≡ true = grind (arith, nat_tests) in rw same refl

others : {A : Type 0} (v i : ℕ) (fresh rest : A) → (i == v) ≡ false → (if v == i then fresh else rest) ≡ rest
others v i fresh rest other = let turned : (v == i) ≡ false = grind (arith, nat_tests) in rw turned refl

same-kind : (kind : Call → Bool) (b : Bool) (now : ℕ) (rest : Option Open) → is-kind kind (if b then option_map (with_effect now) rest else rest) ≡ true → is-kind kind rest ≡ true
same-kind kind true now None is = is
same-kind kind true now (Some opened) is = is
same-kind kind false now rest is = is

answered-kind : (kind : Call → Bool) (P : Open → Type 0) (rest : Option Open) → IsSomeAnd rest P → ((opened : Open) → P opened → kind opened.call ≡ true) → is-kind kind rest ≡ true
answered-kind kind P None h each = absurd h
answered-kind kind P (Some opened) h each = each opened h

-- right replies of a kind are to calls of a kind
Answers : (List Mark → ℕ → Open → Spent → Type 0) → Config → List ℕ → Pages → (Call → Bool) → (Reply → Bool) → Type 0
Answers Cause c start pages kind told = (past : List Mark) (answer : Answer) → IsRightReplyBy (Cause past answer.worker answer.opened) c start pages past answer → told answer.reply ≡ true → kind answer.opened.call ≡ true

balance : (Cause : List Mark → ℕ → Open → Spent → Type 0) (c : Config) (start : List ℕ) (pages : Pages) (kind : Call → Bool) (told : Reply → Bool) (past : List Mark) (n : ℕ) → Answers Cause c start pages kind told
    → CallsStand (map_at_start c start) past → EachMark (HasRightReplyBy Cause c start pages) past → passing (asks kind past) 0 n + ends told past ≤ begins kind past
unfolding Answers
balance Cause c start pages kind told [] n answers once right = omega (arith, none-passing (asks kind []) 0 n (λ i. refl))
balance Cause c start pages kind told (Begin v m call ∷ past) n answers once right =
    begin-balance (kind call) (asks kind (Begin v m call ∷ past)) (asks kind past) v n (ends told past) (begins kind past) (ap (is-kind kind) (own v _ (open_call v past)))
    (λ i other pass. sym (ap (is-kind kind) (others v i _ (open_call i past) other)) ∙ pass) (balance Cause c start pages kind told past (n + v + 1) answers once.1 right.1)
balance Cause c start pages kind told (End v m reply at ∷ past) n answers once right =
    end-balance (told reply) (asks kind (End v m reply at ∷ past)) (asks kind past) v n (ends told past) (begins kind past) (ap (is-kind kind) (own v None (open_call v past)))
    (λ is. answered-kind kind _ (open_call v past) right.0 (λ opened h. answers past _ h is))
    (λ i other pass. sym (ap (is-kind kind) (others v i None (open_call i past) other)) ∙ pass) (balance Cause c start pages kind told past (n + v + 1) answers once.1 right.1)
balance Cause c start pages kind told (Effect v m ∷ past) n answers once right =
    omega (
      arith,
      more (asks kind (Effect v m ∷ past)) (asks kind past) n n (omega arith) (λ i pass. same-kind kind (v == i) (length past) (open_call i past) pass),
      balance Cause c start pages kind told past n answers once.1 right.1,
    )
balance Cause c start pages kind told (Cut ∷ past) n answers once right =
    omega (arith, none-passing (asks kind (Cut ∷ past)) 0 n (λ i. refl), balance Cause c start pages kind told past n answers once.1 right.1)
balance Cause c start pages kind told (mark ∷ past) n answers once right = balance Cause c start pages kind told past n answers once.1 right.1

-- so while one of the kind is open
fewer : (Cause : List Mark → ℕ → Open → Spent → Type 0) (c : Config) (start : List ℕ) (pages : Pages) (kind : Call → Bool) (told : Reply → Bool) (past : List Mark) (w : ℕ) (opened : Open) → Answers Cause c start pages kind told
    → CallsStand (map_at_start c start) past → EachMark (HasRightReplyBy Cause c start pages) past → open_call w past ≡ Some opened → kind opened.call ≡ true → ends told past < begins kind past
fewer Cause c start pages kind told past w opened answers once right is asked =
    omega (arith, without-one (asks kind past) w 0 (w + 1) (omega arith) (omega arith) (ap (is-kind kind) is ∙ asked), balance Cause c start pages kind told past (w + 1) answers once right)

-- a page answers a call that asks for one
page-asked : (Cause : Spent → Type 0) (c : Config) (start : List ℕ) (pages : Pages) (past : List Mark) (answer : Answer) (effect : Option ℕ) (reply : Reply) → answer.reply ≡ reply → names_page reply ≡ true
    → IsAnswerBy Cause c start pages past answer effect reply → is_page answer.opened.call ≡ true
page-asked Cause c start pages past answer (Some effect) (reply.Page page next) same names h = absurd (never-page _ _ answer.opened.call page next (h.answers ∙ ap Some same))
page-asked Cause c start pages past answer (Some effect) reply same names h = absurd (cc)
page-asked Cause c start pages past answer None (reply.Page page next) same names h = ap is_page h.asked
page-asked Cause c start pages past answer None reply same names h = absurd (cc)

pub leaves-room : (Cause : List Mark → ℕ → Open → Spent → Type 0) (c : Config) (log : Log) (w : ℕ) (opened : Open) → Stands Cause c log → open_call w log.past ≡ Some opened
    → LeavesRoom log.past opened.call
unfolding Answers
leaves-room Cause c log w opened stands is = record {
  for_end = omega (
    arith,
    all-begins log.past,
    all-ends log.past,
    fewer Cause c log.start log.pages (λ call. true) (λ reply. true) log.past w opened (λ past answer h named. refl) stands.once stands.replies is refl,
  );
  for_page = λ asked. omega (
    arith,
    page-begins log.past,
    page-ends log.past,
    fewer Cause c log.start log.pages is_page names_page log.past w opened
        (λ past answer h named. page-asked (Cause past answer.worker answer.opened) c log.start log.pages past answer answer.opened.effect answer.reply refl named h.right) stands.once stands.replies is asked,
  );
}

pub room-left : OpenCallsLeaveRoom
room-left c log w opened sound is = leaves-room (IsSpent c log.start) c log w opened (unbroken-stands c log sound) is
