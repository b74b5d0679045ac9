-- What is read off the words of `serve` is what they write, and the other way round.
use Rattle.std.proofs.Common.{◌≡◌, ℕ, Bool, true, false, cond, ◌&&◌, ◌==◌, List, [], ◌∷◌, length, codes, refl, sym, ap, subst, ◌∙◌, Option, Some, None, arith}
use Rattle.std.specs.List.{list_any}
use Rattle.std.specs.List.Sorted.{IsPermutation}
use Rattle.std.specs.Str.{bytes_eq}
use Rattle.std.proofs.lemmas.Bool.{and_from, and_parts, cond-true}
use Rattle.std.proofs.lemmas.Bool.Decides.{Decides-eqb}
use Rattle.std.proofs.lemmas.List.Sorted.{IsPermutation-trans, IsPermutation-cons, length_permutation}
use Rattle.std.proofs.lemmas.Slice.Eq.{bytes_eq-Decides}
use Rattle.sw_words.specs.Reading.{◌>>=◌, number_of, number_within, options_in, options_of, value_of}
use Rattle.sw_words.specs.Serve.{AreServeWords, IsNumberWithin}
use Rattle.sw_words.specs.Words.{is_plain_word}
use Rattle.sw_words.specs.declared.serve.ServeOptions.{ServeOptions}
use Rattle.sw_words.proofs.Numerals.{number_is_read, number_is_written}
use Rattle.sw_words.proofs.Pairs.{Pair, bytes_eq-same, differs, is_named, length-words_of, paired}
use Rattle.sw_words.proofs.Pairs.{taken, taken_alone, value_in, value_in_any_order, value_of_words, words_of}

-- ---- steps that found something

bind_some : {A B : Type 0} (o : Option A) (f : A → Option B) (y : B) → (o >>= f) ≡ Some y → (x : A) × (o ≡ Some x) × (f x ≡ Some y)
bind_some (Some x) f y e = (x, refl, e)
bind_some None f y e = absurd cc

bind_is : {A B : Type 0} (o : Option A) (f : A → Option B) (x : A) (y : B) → o ≡ Some x → f x ≡ Some y → (o >>= f) ≡ Some y
bind_is o f x y e g = rw e g

-- ---- the four numbers

record IsBehind (name : List ℕ) (least greatest : ℕ) (words : List (List ℕ)) (number : ℕ) : Type 0 where
  text : List ℕ
  stands : value_of name words ≡ Some text
  is_number : IsNumberWithin least greatest text number

behind : (name : List ℕ) (least greatest : ℕ) (words : List (List ℕ)) (number : ℕ)
    → number_of name least greatest words ≡ Some number → IsBehind name least greatest words number
behind name least greatest words number is =
    let found = bind_some (value_of name words) (number_within least greatest) number is in
    record { text = found.0; stands = found.1; is_number = number_is_written least greatest found.0 number found.2 }

from_behind : (name : List ℕ) (least greatest : ℕ) (words : List (List ℕ)) (number : ℕ)
    → IsBehind name least greatest words number → number_of name least greatest words ≡ Some number
from_behind name least greatest words number is =
    bind_is (value_of name words) (number_within least greatest) is.text number is.stands (number_is_read least greatest is.text number is.is_number)

record AreBehind (words : List (List ℕ)) (options : ServeOptions) : Type 0 where
  port : IsBehind (codes "--port") 1 65535 words options.port
  workers : IsBehind (codes "--workers") 1 16 words options.workers
  connections : IsBehind (codes "--connections") 1 65536 words options.connections
  passes : IsBehind (codes "--passes") 0 65536 words options.passes

-- the steps of `options_in`, last first
abbrev given_passes : ℕ → ℕ → ℕ → ℕ → Option ServeOptions
given_passes port workers connections passes = Some (record { port = port; workers = workers; connections = connections; passes = passes })

abbrev given_connections : List (List ℕ) → ℕ → ℕ → ℕ → Option ServeOptions
given_connections words port workers connections = number_of (codes "--passes") 0 65536 words >>= given_passes port workers connections

abbrev given_workers : List (List ℕ) → ℕ → ℕ → Option ServeOptions
given_workers words port workers = number_of (codes "--connections") 1 65536 words >>= given_connections words port workers

abbrev given_port : List (List ℕ) → ℕ → Option ServeOptions
given_port words port = number_of (codes "--workers") 1 16 words >>= given_workers words port

some_same : (x y : ServeOptions) → Some x ≡ Some y → x ≡ y
some_same x y e = cc

all_behind : (words : List (List ℕ)) (port workers connections passes : ℕ) (options : ServeOptions)
    → number_of (codes "--port") 1 65535 words ≡ Some port → number_of (codes "--workers") 1 16 words ≡ Some workers
    → number_of (codes "--connections") 1 65536 words ≡ Some connections → number_of (codes "--passes") 0 65536 words ≡ Some passes
    → record { port = port; workers = workers; connections = connections; passes = passes } ≡ options → AreBehind words options
all_behind words port workers connections passes options is_port is_workers is_connections is_passes are =
    subst (λ (o : ServeOptions). AreBehind words o) are (record {
      port = behind _ _ _ words port is_port;
      workers = behind _ _ _ words workers is_workers;
      connections = behind _ _ _ words connections is_connections;
      passes = behind _ _ _ words passes is_passes;
    })

are_behind : (words : List (List ℕ)) (options : ServeOptions) → options_in words ≡ Some options → AreBehind words options
unfolding options_in
are_behind words options is =
    let port = bind_some (number_of (codes "--port") 1 65535 words) (given_port words) options is in
    let workers = bind_some (number_of (codes "--workers") 1 16 words) (given_workers words port.0) options port.2 in
    let connections = bind_some (number_of (codes "--connections") 1 65536 words) (given_connections words port.0 workers.0) options workers.2 in
    let passes = bind_some (number_of (codes "--passes") 0 65536 words) (given_passes port.0 workers.0 connections.0) options connections.2 in
    all_behind words port.0 workers.0 connections.0 passes.0 options port.1 workers.1 connections.1 passes.1
    (some_same (record { port = port.0; workers = workers.0; connections = connections.0; passes = passes.0 }) options passes.2)

from_are_behind : (words : List (List ℕ)) (options : ServeOptions) → AreBehind words options → options_in words ≡ Some options
unfolding options_in
from_are_behind words options are =
    bind_is (number_of (codes "--port") 1 65535 words) (given_port words) options.port options (from_behind _ _ _ words options.port are.port)
    (bind_is (number_of (codes "--workers") 1 16 words) (given_workers words options.port) options.workers options
    (from_behind _ _ _ words options.workers are.workers)
    (bind_is (number_of (codes "--connections") 1 65536 words) (given_connections words options.port options.workers) options.connections options
    (from_behind _ _ _ words options.connections are.connections)
    (bind_is (number_of (codes "--passes") 0 65536 words) (given_passes options.port options.workers options.connections) options.passes options
    (from_behind _ _ _ words options.passes are.passes) refl)))

-- ---- the four pairs

abbrev four : (port workers connections passes : List ℕ) → List Pair
four port workers connections passes =
    (codes "--port", port) ∷ (codes "--workers", workers) ∷ (codes "--connections", connections) ∷ (codes "--passes", passes) ∷ []

-- four pairs among which each name is found
in_any_order : (port workers connections passes : List ℕ) (pairs : List Pair) → length pairs ≡ 4
    → value_in (codes "--port") pairs ≡ Some port → value_in (codes "--workers") pairs ≡ Some workers
    → value_in (codes "--connections") pairs ≡ Some connections → value_in (codes "--passes") pairs ≡ Some passes
    → IsPermutation (four port workers connections passes) pairs
in_any_order port workers connections passes pairs as_many is_port is_workers is_connections is_passes =
    let a = taken (codes "--port") port pairs is_port in
    let b = taken (codes "--workers") workers a.others (a.kept (codes "--workers") refl ∙ is_workers) in
    let c = taken (codes "--connections") connections b.others
    (b.kept (codes "--connections") refl ∙ (a.kept (codes "--connections") refl ∙ is_connections)) in
    let d = taken (codes "--passes") passes c.others
    (c.kept (codes "--passes") refl ∙ (b.kept (codes "--passes") refl ∙ (a.kept (codes "--passes") refl ∙ is_passes))) in
    let last = taken_alone (codes "--passes") passes c.others d (omega (arith, a.fewer, b.fewer, c.fewer)) in
    let third = IsPermutation-trans _ _ _ (IsPermutation-cons (codes "--connections", connections) _ _ last) c.same in
    let second = IsPermutation-trans _ _ _ (IsPermutation-cons (codes "--workers", workers) _ _ third) b.same in
    IsPermutation-trans _ _ _ (IsPermutation-cons (codes "--port", port) _ _ second) a.same

-- ---- the words

abbrev are_said : List ℕ → List ℕ → List (List ℕ) → Bool
are_said command ring words = bytes_eq command (codes "serve") && (is_plain_word ring && (length words == 8))

said : (command ring : List ℕ) (words : List (List ℕ)) (options : ServeOptions) → command ≡ codes "serve" → is_plain_word ring ≡ true → length words ≡ 8
    → AreBehind words options → AreServeWords (command ∷ ring ∷ words) options
said command ring words options is_command plain eight are =
    let found = paired 4 words eight in
    let in_pairs : (name : List ℕ) → value_of name words ≡ value_in name found.pairs = λ name. ap (value_of name) found.are ∙ value_of_words name found.pairs in
    record {
      ring = ring;
      pairs = found.pairs;
      port = are.port.text;
      workers = are.workers.text;
      connections = are.connections.text;
      passes = are.passes.text;
      in_words = ap (λ c. c ∷ ring ∷ words) is_command ∙ ap (λ ws. codes "serve" ∷ ring ∷ ws) found.are;
      plain_ring = plain;
      in_any_order = in_any_order are.port.text are.workers.text are.connections.text are.passes.text found.pairs found.as_many
          (sym (in_pairs (codes "--port")) ∙ are.port.stands) (sym (in_pairs (codes "--workers")) ∙ are.workers.stands)
          (sym (in_pairs (codes "--connections")) ∙ are.connections.stands) (sym (in_pairs (codes "--passes")) ∙ are.passes.stands);
      port_number = are.port.is_number;
      workers_number = are.workers.is_number;
      connections_number = are.connections.is_number;
      passes_number = are.passes.is_number;
    }

then_some : {A : Type 0} (b : Bool) (o : Option A) (x : A) → cond b o None ≡ Some x → (b ≡ true) × (o ≡ Some x)
then_some true o x e = (refl, e)
then_some false o x e = absurd cc

-- what is read is what the words write
pub options_are_written : (words : List (List ℕ)) (options : ServeOptions) → options_of words ≡ Some options → AreServeWords words options
options_are_written [] options is = absurd cc
options_are_written (command ∷ []) options is = absurd cc
options_are_written (command ∷ ring ∷ words) options is =
    let found = then_some (are_said command ring words) (options_in words) options is in
    let first = and_parts (bytes_eq command (codes "serve")) (is_plain_word ring && (length words == 8)) found.0 in
    let second = and_parts (is_plain_word ring) (length words == 8) first.1 in
    said command ring words options ((bytes_eq-Decides command (codes "serve")).0 first.0) second.0 ((Decides-eqb (length words) 8).0 second.1)
    (are_behind words options found.1)

stands_in : (name value : List ℕ) (wanted pairs : List Pair) → IsPermutation wanted pairs
    → list_any (is_named name) wanted ≡ true → list_any (differs name value) wanted ≡ false → value_of name (words_of pairs) ≡ Some value
stands_in name value wanted pairs order some one = value_of_words name pairs ∙ value_in_any_order name value wanted pairs order some one

-- what the words write is read
pub options_are_read : (words : List (List ℕ)) (options : ServeOptions) → AreServeWords words options → options_of words ≡ Some options
options_are_read words options are =
    let all = four are.port are.workers are.connections are.passes in
    let rest = words_of are.pairs in
    let order : IsPermutation all are.pairs = are.in_any_order in
    let as_many : length are.pairs ≡ 4 = length_permutation all are.pairs order in
    let eight : length rest ≡ 8 = omega (arith, length-words_of are.pairs) in
    let behind_all : AreBehind rest options = record {
      port = record {
        text = are.port;
        stands = stands_in (codes "--port") are.port all are.pairs order refl (rw (bytes_eq-same are.port) refl);
        is_number = are.port_number;
      };
      workers = record {
        text = are.workers;
        stands = stands_in (codes "--workers") are.workers all are.pairs order refl (rw (bytes_eq-same are.workers) refl);
        is_number = are.workers_number;
      };
      connections = record {
        text = are.connections;
        stands = stands_in (codes "--connections") are.connections all are.pairs order refl (rw (bytes_eq-same are.connections) refl);
        is_number = are.connections_number;
      };
      passes = record {
        text = are.passes;
        stands = stands_in (codes "--passes") are.passes all are.pairs order refl (rw (bytes_eq-same are.passes) refl);
        is_number = are.passes_number;
      };
    } in
    let test : are_said (codes "serve") are.ring rest ≡ true = and_from _ _ refl (and_from _ _ are.plain_ring ((Decides-eqb (length rest) 8).1 eight)) in
    ap options_of are.in_words ∙ (cond-true (are_said (codes "serve") are.ring rest) (options_in rest) None test ∙ from_are_behind rest options behind_all)

-- so the words write one thing at most
pub one_reading : (words : List (List ℕ)) (one other : ServeOptions) → AreServeWords words one → AreServeWords words other → one ≡ other
one_reading words one other here there = some_same one other (sym (options_are_read words one here) ∙ options_are_read words other there)
