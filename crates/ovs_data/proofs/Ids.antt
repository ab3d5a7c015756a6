-- What a text that is no id reads to, how long the text of an id is, and that it reads back.
use Rattle.std.proofs.Common.{◌≡◌, ℕ, ◌+◌, ◌*◌, ◌/◌, ◌%◌, ◌<◌, ◌^◌, List, length, Option, Some, None, inl, refl, sym, ap, ◌∙◌, arith}
use Rattle.std.specs.Prelude.{option_map}
use Rattle.std.specs.Int.{w128, from_be_bytes, to_be_bytes}
use Rattle.uuid.specs.Text.{parsed, parsed_hyphenated, hyphenated_text, lower}
use Rattle.std.proofs.lemmas.List.Elements.{All-from_recursion}
use Rattle.std.specs.Prelude.{All}
use Rattle.uuid.proofs.RoundTrips.{parses_hyphenated_text}
use Rattle.uuid.proofs.TextLemmas.{by_index_length}
use Rattle.ovs_data.specs.Id.{read_id, id_text}

pub none_if_absent : {X : Type 0} (o : Option X) → ((u : X) × (o ≡ Some u) → ⊥) → None ≡ o
none_if_absent None h = refl
none_if_absent (Some x) h = absurd (h (x, refl))

pub parsed-at_36 : (s : List ℕ) → length s ≡ 36 → parsed s ≡ parsed_hyphenated s
parsed-at_36 s len = rw len refl

pub length-hyphenated : (letter : ℕ) (id : List ℕ) → length (hyphenated_text letter id) ≡ 36
length-hyphenated letter id = by_index_length 36 _

-- ---- a number's bytes give the number

joined : (d0 d1 d2 d3 d4 d5 d6 d7 d8 d9 d10 d11 d12 d13 d14 d15 q0 q1 q2 q3 q4 q5 q6 q7 q8 q9 q10 q11 q12 q13 q14 q15 : ℕ) → q0 ≡ d0 + q1 * 256 → q1 ≡ d1 + q2 * 256 → q2 ≡ d2 + q3 * 256 → q3 ≡ d3 + q4 * 256 → q4 ≡ d4 + q5 * 256 → q5 ≡ d5 + q6 * 256 → q6 ≡ d6 + q7 * 256 → q7 ≡ d7 + q8 * 256 → q8 ≡ d8 + q9 * 256 → q9 ≡ d9 + q10 * 256 → q10 ≡ d10 + q11 * 256 → q11 ≡ d11 + q12 * 256 → q12 ≡ d12 + q13 * 256 → q13 ≡ d13 + q14 * 256 → q14 ≡ d14 + q15 * 256 → q15 ≡ d15
    → d15 * 1329227995784915872903807060280344576 + d14 * 5192296858534827628530496329220096 + d13 * 20282409603651670423947251286016 + d12 * 79228162514264337593543950336 + d11 * 309485009821345068724781056 + d10 * 1208925819614629174706176 + d9 * 4722366482869645213696 + d8 * 18446744073709551616 + d7 * 72057594037927936 + d6 * 281474976710656 + d5 * 1099511627776 + d4 * 4294967296 + d3 * 16777216 + d2 * 65536 + d1 * 256 + d0 ≡ q0
joined d0 d1 d2 d3 d4 d5 d6 d7 d8 d9 d10 d11 d12 d13 d14 d15 q0 q1 q2 q3 q4 q5 q6 q7 q8 q9 q10 q11 q12 q13 q14 q15 at_0 at_1 at_2 at_3 at_4 at_5 at_6 at_7 at_8 at_9 at_10 at_11 at_12 at_13 at_14 at_15 = omega arith

byte_and_rest : (n p : ℕ) → n / p ≡ n / p % 256 + n / (p * 256) * 256
byte_and_rest n p = omega (arith, native.Mathlib.Nat.div-div-eq-div-mul n p 256)

pub from_be_bytes-to_be_bytes : (n : ℕ) → n < 2 ^ 128 → from_be_bytes w128 (to_be_bytes w128 n) ≡ n
from_be_bytes-to_be_bytes n fits =
    let low : n ≡ n % 256 + n / 256 * 256 = omega arith in
    let high : n / 1329227995784915872903807060280344576 ≡ n / 1329227995784915872903807060280344576 % 256 = omega arith in
    joined (n % 256) (n / 256 % 256) (n / 65536 % 256) (n / 16777216 % 256) (n / 4294967296 % 256) (n / 1099511627776 % 256) (n / 281474976710656 % 256) (n / 72057594037927936 % 256) (n / 18446744073709551616 % 256) (n / 4722366482869645213696 % 256) (n / 1208925819614629174706176 % 256) (n / 309485009821345068724781056 % 256) (n / 79228162514264337593543950336 % 256) (n / 20282409603651670423947251286016 % 256) (n / 5192296858534827628530496329220096 % 256) (n / 1329227995784915872903807060280344576 % 256) n (n / 256) (n / 65536) (n / 16777216) (n / 4294967296) (n / 1099511627776) (n / 281474976710656) (n / 72057594037927936) (n / 18446744073709551616) (n / 4722366482869645213696) (n / 1208925819614629174706176) (n / 309485009821345068724781056) (n / 79228162514264337593543950336) (n / 20282409603651670423947251286016) (n / 5192296858534827628530496329220096) (n / 1329227995784915872903807060280344576) low (byte_and_rest n 256) (byte_and_rest n 65536) (byte_and_rest n 16777216) (byte_and_rest n 4294967296) (byte_and_rest n 1099511627776) (byte_and_rest n 281474976710656) (byte_and_rest n 72057594037927936) (byte_and_rest n 18446744073709551616) (byte_and_rest n 4722366482869645213696) (byte_and_rest n 1208925819614629174706176) (byte_and_rest n 309485009821345068724781056) (byte_and_rest n 79228162514264337593543950336) (byte_and_rest n 20282409603651670423947251286016) (byte_and_rest n 5192296858534827628530496329220096) high

-- each of a number's bytes is one
bytes_small : (n : ℕ) → All (λ b. b < 256) (to_be_bytes w128 n)
bytes_small n = All-from_recursion (λ b. b < 256) (to_be_bytes w128 n)
    (omega arith, (omega arith, (omega arith, (omega arith, (omega arith, (omega arith, (omega arith, (omega arith, (omega arith, (omega arith, (omega arith, (omega arith, (omega arith, (omega arith, (omega arith, (omega arith, tt))))))))))))))))

-- the text of a number of 128 bits reads to the number
pub id_reads_back : (n : ℕ) → n < 2 ^ 128 → read_id (id_text n) ≡ Some n
id_reads_back n fits =
    ap (option_map (from_be_bytes w128)) (sym (parses_hyphenated_text lower (to_be_bytes w128 n) (inl refl) refl (bytes_small n)))
    ∙ ap Some (from_be_bytes-to_be_bytes n fits)
