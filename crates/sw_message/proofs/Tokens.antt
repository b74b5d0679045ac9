-- The parser's tokens are those of the crate of methods: two tests of a byte with one body.
use Rattle.std.proofs.Common.{◌≡◌, ℕ, List, get_or, refl, ◌∙◌}
use Rattle.httparse.specs.Grammar as grammar
use Rattle.http_header.specs.Token as token

same_test : (b : ℕ) → token.is_token_byte b ≡ grammar.is_token_byte b
unfolding token.is_token_byte grammar.is_token_byte
same_test b = refl

pub token_same : (bytes : List ℕ) → grammar.IsToken bytes → token.IsToken bytes
token_same bytes is = (is.0, λ k d inside. same_test (get_or bytes k d) ∙ is.1 k d inside)
