-- The texts that control requests are answered with. (This project's own.)
use Rattle.std.specs.Prelude.{ℕ, List, [], ◌∷◌, ◌++◌, codes}
use Rattle.std.specs.List.{flat_map}
use Rattle.sw_message.specs.declared.response.ReplyBody.TheVariants.{Whole}
use Rattle.sw_message.specs.declared.response.Response.{Response}
use Rattle.sw_object_server.specs.Replies.{field}

-- a reply that is a text
abbrev pub text_reply : List ℕ → Response
text_reply text = record {
  status = 200;
  fields = field (codes "Content-Type") (codes "text/plain; charset=utf-8") ∷ [];
  body = Whole text;
}

-- the text of a list of files: a text line for each path
abbrev pub files_text : List (List ℕ) → List ℕ
files_text paths = flat_map (λ path. path ++ codes "\n") paths
