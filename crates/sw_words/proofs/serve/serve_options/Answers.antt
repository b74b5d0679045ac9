use Rattle.std.proofs.Common.{◌≡◌, map, rules, Some, sym, subst}
use Rattle.std.specs.String.{string_bytes}
use Rattle.sw_words.specs.Reading.{options_of}
use Rattle.sw_words.specs.Serve.{IsOffered}
use Rattle.sw_words.specs.declared.serve.ServeOptions.{ServeOptions}
use Rattle.sw_words.proofs.Serving.{options_are_read, options_are_written}
use Rattle.sw_words.proofs.serve.serve_options.Goals as goal

pub returns-in-Some-clause-asked : goal.returns-in-Some-clause-asked
returns-in-Some-clause-asked c =
    let read : options_of (map string_bytes c.args.words.now) ≡ Some c.in-Some.options = cc (c.options_of.ensures) in
    record {
      are_words = options_are_written (map string_bytes c.args.words.now) c.in-Some.options read;
      offered = search rules;
    }

pub returns-in_default-clause-refused : goal.returns-in_default-clause-refused
returns-in_default-clause-refused c = λ options is.
    let read = options_are_read (map string_bytes c.args.words.now) options is.are_words in
    let same : c.in-Some.options ≡ options = cc (c.options_of.ensures, read) in
    let offered : IsOffered c.in-Some.options = subst (λ (o : ServeOptions). IsOffered o) (sym same) is.offered in
    search rules

pub returns-in_default-2-clause-refused : goal.returns-in_default-2-clause-refused
returns-in_default-2-clause-refused c = λ options is.
    let read = options_are_read (map string_bytes c.args.words.now) options is.are_words in
    cc (c.options_of.ensures, read, c.in_default.is)
