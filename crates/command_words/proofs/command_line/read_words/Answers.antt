use Rattle.std.proofs.Common.{◌∙◌, ap, map}
use Rattle.clap.specs.Matches.{found_of}
use Rattle.clap.specs.Values.{kind_of}
use Rattle.clap.specs.Walk.{first_of, rows_of}
use Rattle.clap.proofs.WalkLemmas.{first_value-rows, raw_values-rows}
use Rattle.command_words.proofs.Lines.{answer_of_refused, answer_of_taken, places_are}
use Rattle.command_words.proofs.command_line.read_words.Goals as goal

pub returns-in-Err : goal.returns-in-Err
returns-in-Err c = answer_of_refused (map (λ word. word.now) c.args.words.now) (kind_of c.in-Err.error) c.refusal_of.result c.refusal_of.ensures c.in-Err.ensures.kinds

pub returns : goal.returns
returns c =
    let found = found_of c.in-Ok.matches in
    answer_of_taken (map (λ word. word.now) c.args.words.now) (rows_of found) _ _ _ c.settings_of.result c.in-Ok.ensures.kinds c.in-Ok.ensures.matches
    (c.get_str.ensures ∙ first_value-rows found _ ∙ ap (λ id. first_of id (rows_of found)) c.name.ensures)
    (c.get_str-2.ensures ∙ first_value-rows found _ ∙ ap (λ id. first_of id (rows_of found)) c.name-2.ensures)
    (places_are c.get_strs.result c.unwrap_or_default.result _ (c.get_strs.ensures ∙ raw_values-rows found _) c.unwrap_or_default.ensures) c.settings_of.ensures
