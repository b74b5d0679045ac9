-- the decimal form of a number is ASCII, and parses to the number
use Rattle.std.proofs.Common.{◌≡◌, decimal, ◌∙◌, arith}
use Rattle.std.proofs.lemmas.Fmt.{IsAscii-decimal, parse-decimal}
use Rattle.std.proofs.lemmas.Str.{IsUtf8-from_ascii}
use Rattle.sw_object_server.proofs.partitions.number_of.Goals as goal

pub returns-in_default : goal.returns-in_default
returns-in_default c n small is = absurd (c.in_default.ensures.cases.0 (rw is (IsUtf8-from_ascii (decimal n) (IsAscii-decimal n (omega arith)))))

pub returns-in-Ok-parse : goal.returns-in-Ok-parse
returns-in-Ok-parse c n small is =
    let same : c.in-Ok.text.now ≡ decimal n = c.in-Ok.ensures.cases.0 ∙ is in
    let parsed = parse-decimal 32 n c.in-Ok.text.now c.parse.result small (omega arith) same c.parse.ensures.value.0 in
    cc

pub returns-in-Err : goal.returns-in-Err
returns-in-Err c n small is =
    let same : c.in-Ok.text.now ≡ decimal n = c.in-Ok.ensures.cases.0 ∙ is in
    let parsed = parse-decimal 32 n c.in-Ok.text.now c.parse.result small (omega arith) same c.parse.ensures.value.0 in
    cc
