-- The tables of a world after each kind of change. A field of them is proved again here, where a call begins, and where a world is
-- made, and nowhere else.
use Rattle.std.proofs.Common.{◌≡◌, ◌⊎◌, ◌<◌, ◌≤◌, ◌+◌, ◌==◌, if◌then◌else◌, ℕ, Bool, true, false, List, ◌∷◌, length, slice_index, arith, refl, sym, ap, subst, ◌∙◌, Option, None}
use Rattle.std.specs.Prelude.{option_map}
use Rattle.bz_swap_acts.specs.declared.acted.Act.{Act}
use Rattle.bz_swap_acts.specs.declared.acted.Act.TheVariants as act
use Rattle.bz_call.specs.Map.{Map}
use Rattle.bz_swap_machine.specs.declared.done.Done.{Done}
use Rattle.bz_mark.specs.Log.{count_begins, count_page_calls, with_mark}
use Rattle.bz_mark.specs.declared.marks.Mark.{Mark}
use Rattle.bz_mark.specs.declared.marks.Mark.TheVariants.{Begin, End, Evict, Cut, Effect}
use Rattle.bz_sound.specs.Calls.{Open, with_effect, open_call, begun_calls, map_after}
use Rattle.bz_mark.specs.Times.{power_of}
use Rattle.bz_swap.specs.Evictions.{IsEviction}
use Rattle.bz_swap.specs.Steps.{IsOneAct}
use Rattle.bz_swap.specs.SwapMemory.{SwapMemory}
use Rattle.bz_world.specs.Inside.Kept.{CountsPairs, IsTabled}
use Rattle.bz_world.specs.WorldView.{mark_of}
use Rattle.bz_world.specs.declared.parts.Parts.{Parts}
use Rattle.bz_world.proofs.Counting.{pairs-stay}
use Rattle.bz_world.proofs.Powered.{leaves-power, power-more}

-- a world but for what the tables do not read, and of what they read a count alone
pub record IsBeside (p q : Parts) : Type 0 where
  pub workers : length q.workers.items ≡ length p.workers.items
  pub owners : length q.owners.items ≡ length p.owners.items
  pub crew : length q.access.workers ≡ length p.access.workers
  pub steps : q.access.steps ≡ p.access.steps
  pub rest : q ≡ record p { access = q.access; slots = q.slots; recovery = q.recovery; workers = q.workers; owners = q.owners; page = q.page; left_out = q.left_out }

-- it has the same tables
pub tabled-beside : {p q : Parts} → IsBeside p q → IsTabled p → IsTabled q
tabled-beside {p} {q} b t =
    let places : length q.workers.items ≡ 65 = b.workers ∙ t.places in
    let owner_places : length q.owners.items ≡ p.config.swaps = b.owners ∙ t.owner_places in
    let crew : length q.access.workers ≡ p.config.workers + 1 = b.crew ∙ t.crew in
    let steps : q.access.steps ≤ length p.journal.past = omega (arith, b.steps, t.steps) in
    subst IsTabled (sym b.rest) (assumption (t, places, owner_places, crew, steps))

-- a mark that begins no call
abbrev pub BeginsNone : Mark → Type 0
BeginsNone (Begin w n call) = ⊥
BeginsNone mark = Unit {0}

-- and leaves the map
abbrev pub IsPlain : Mark → Type 0
IsPlain (Effect w n) = ⊥
IsPlain mark = BeginsNone mark

plain-begins-none : (mark : Mark) → IsPlain mark → BeginsNone mark
plain-begins-none (Effect w n) h = absurd h
plain-begins-none mark h = h

act-plain : (w : ℕ) (made : Act) → IsPlain (mark_of w made)
act-plain w (act.Load a v) = tt
act-plain w (act.Store a v) = tt
act-plain w (act.Cas a old new found) = tt
act-plain w (act.Ask line) = tt
act-plain w act.Fence = tt

-- such a mark leaves the counts of the calls that began
begun_calls-stays : (v : ℕ) (past : List Mark) (mark : Mark) → BeginsNone mark → begun_calls v (mark ∷ past) ≡ begun_calls v past
begun_calls-stays v past (Begin w n call) h = absurd h
begun_calls-stays v past mark h = refl

count_begins-stays : (past : List Mark) (mark : Mark) → BeginsNone mark → count_begins (mark ∷ past) ≡ count_begins past
count_begins-stays past (Begin w n call) h = absurd h
count_begins-stays past mark h = refl

count_page_calls-stays : (past : List Mark) (mark : Mark) → BeginsNone mark → count_page_calls (mark ∷ past) ≡ count_page_calls past
count_page_calls-stays past (Begin w n call) h = absurd h
count_page_calls-stays past mark h = refl

map_after-stays : (map : Map) (past : List Mark) (mark : Mark) → IsPlain mark → map_after map (mark ∷ past) ≡ map_after map past
map_after-stays map past (Effect w n) h = absurd h
map_after-stays map past mark h = refl

-- and where a worker has no open call it opens none
none-ended : (own : Bool) (opened : Option Open) → opened ≡ None → (if own then None else opened) ≡ None
none-ended true opened e = refl
none-ended false opened e = e

none-noted : (own : Bool) (f : Open → Open) (opened : Option Open) → opened ≡ None → (if own then option_map f opened else opened) ≡ None
none-noted true f opened e = ap (option_map f) e
none-noted false f opened e = e

none-opened : (v : ℕ) (past : List Mark) (mark : Mark) → BeginsNone mark → open_call v past ≡ None → open_call v (mark ∷ past) ≡ None
none-opened v past (Begin w n call) h e = absurd h
none-opened v past (End w n reply at) h e = none-ended (w == v) (open_call v past) e
none-opened v past (Effect w n) h e = none-noted (w == v) (with_effect (length past)) (open_call v past) e
none-opened v past Cut h e = refl
none-opened v past mark h e = e

-- a world with one mark more
pub record HasMark (p : Parts) (mark : Mark) (q : Parts) : Type 0 where
  pub room : length p.journal.past < p.config.marks
  pub workers : length q.workers.items ≡ length p.workers.items
  pub crew : length q.access.workers ≡ length p.access.workers
  pub steps : q.access.steps ≤ length p.journal.past + 1
  pub power : power_of p.at_start (mark ∷ p.journal.past) ≡ q.power
  pub rest : q ≡ record p { access = q.access; slots = q.slots; journal = record (with_mark p.journal mark) { pages = q.journal.pages }; power = q.power; recovery = q.recovery; workers = q.workers; page = q.page; left_out = q.left_out; pairs = q.pairs }

-- its tables, where the mark begins no call
pub tabled-marked : (p q : Parts) (mark : Mark) → BeginsNone mark → HasMark p mark q → CountsPairs p.config p.journal.start (mark ∷ p.journal.past) q.pairs → IsTabled p → IsTabled q
tabled-marked p q mark none m pairs t =
    let marks : length (mark ∷ p.journal.past) ≤ p.config.marks = omega (arith, m.room) in
    let places : length q.workers.items ≡ 65 = m.workers ∙ t.places in
    let crew : length q.access.workers ≡ p.config.workers + 1 = m.crew ∙ t.crew in
    let counted : (w : ℕ) → w < 65 → slice_index p.numbers.items w ≡ begun_calls w (mark ∷ p.journal.past) = λ w l. t.counted w l ∙ sym (begun_calls-stays w p.journal.past mark none) in
    let strangers : (w : ℕ) → ((w ≡ 0) ⊎ (p.config.workers < w)) → open_call w (mark ∷ p.journal.past) ≡ None = λ w o. none-opened w p.journal.past mark none (t.strangers w o) in
    let begins : p.begun ≡ count_begins (mark ∷ p.journal.past) = t.begins ∙ sym (count_begins-stays p.journal.past mark none) in
    let page_calls : p.pages_begun ≡ count_page_calls (mark ∷ p.journal.past) = t.page_calls ∙ sym (count_page_calls-stays p.journal.past mark none) in
    let steps : q.access.steps ≤ length (mark ∷ p.journal.past) = omega (arith, m.steps) in
    subst IsTabled (sym m.rest) (assumption (t, marks, places, crew, counted, strangers, begins, page_calls, steps, pairs, m.power))

-- and leaves the map
pub tabled-plain : (p q : Parts) (mark : Mark) → IsPlain mark → HasMark p mark q → q.pairs ≡ p.pairs → IsTabled p → IsTabled q
tabled-plain p q mark plain m same t =
    let pairs : CountsPairs p.config p.journal.start (mark ∷ p.journal.past) p.pairs = pairs-stay p.config p.journal.start p.journal.past mark p.pairs (λ map. map_after-stays map p.journal.past mark plain) t.pairs in
    tabled-marked p q mark (plain-begins-none mark plain) m (subst (CountsPairs p.config p.journal.start (mark ∷ p.journal.past)) (sym same) pairs) t

-- an act
pub tabled-acted : (p : Parts) (w : ℕ) (made : Act) (done : Done) (access : SwapMemory) → IsOneAct p.access w made done access → length p.journal.past < p.config.marks → IsTabled p → IsTabled (record p { access = access; journal = with_mark p.journal (mark_of w made) })
tabled-acted p w made done access one room t = tabled-plain p (record p { access = access; journal = with_mark p.journal (mark_of w made) }) (mark_of w made) (act-plain w made) (record {
  room = room;
  workers = refl;
  crew = one.others.count;
  steps = omega (arith, one.steps, t.steps);
  power = power-more p.at_start p.journal.past (mark_of w made) (leaves-power w p.journal.past made) ∙ t.power;
  rest = refl;
}) refl t

-- an eviction
pub tabled-evicted : (p : Parts) (a : ℕ) (told : Option ℕ) (access : SwapMemory) → IsEviction p.access a told access → length p.journal.past < p.config.marks → IsTabled p → IsTabled (record p { access = access; journal = with_mark p.journal (Evict a) })
tabled-evicted p a told access e room t = tabled-plain p (record p { access = access; journal = with_mark p.journal (Evict a) }) (Evict a) tt (record {
  room = room;
  workers = refl;
  crew = ap (λ (m : SwapMemory). length m.workers) e.is;
  steps = omega (arith, ap (λ (m : SwapMemory). m.steps) e.is, t.steps);
  power = t.power;
  rest = refl;
}) refl t
