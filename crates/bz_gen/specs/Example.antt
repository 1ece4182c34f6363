-- The first calls of a workload, worked out.
use Rattle.std.specs.Prelude.{◌≡◌, codes, [], ◌∷◌, ◌++◌}
use Rattle.std.proofs.Common.{refl, ap, ◌∙◌, arith}
use Rattle.std.proofs.lemmas.Fmt.{decimal_digit, decimal_step}
use Rattle.bz_call.specs.declared.calls.Call.TheVariants.{Delete, Update, Upsert}
use Rattle.bz_script.specs.Draws.{next_state, draw_of}
use Rattle.bz_script.specs.declared.item.Item.TheVariants.{Queue}
use Rattle.bz_gen.specs.Names.{key_named, payload_named}
use Rattle.bz_gen.specs.Workload.{behind, draws_from, state_after, item_drawn, items_drawn}

-- the generator, from the seeds 0 and 1
from_zero : draw_of (next_state 0) ≡ 335903614
from_zero = refl

from_one : draw_of (next_state 1) ≡ 1817669548
from_one = refl

-- keys keep their leading zeros, and payloads have none
key_of_seven : key_named 7 ≡ codes "k00007"
unfolding key_named
key_of_seven = refl

payload_of_seventy : payload_named 70 ≡ codes "v70"
unfolding payload_named
payload_of_seventy =
    ap (λ digits. 118 ∷ digits) (decimal_step 70 (omega arith) (omega arith) ∙ ap (λ front. front ++ 48 ∷ []) (decimal_digit 7 (omega arith)))

-- the first three of twelve calls of four workers, from the seed 1
three_calls : items_drawn 1 12 4 3 ≡
    Queue 1 (Delete (codes "k00001"))
    ∷ Queue 2 (Update (codes "k00022") (payload_named 2))
    ∷ Queue 1 (Upsert (codes "k00018") (payload_named 3))
    ∷ []
unfolding behind draws_from state_after item_drawn items_drawn key_named
three_calls = refl
