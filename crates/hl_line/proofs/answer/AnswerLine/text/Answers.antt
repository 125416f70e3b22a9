use Rattle.std.proofs.Common.{rules}
use Rattle.std.proofs.lemmas.Str.{IsUtf8-from_is_utf8}
use Rattle.hl_line.proofs.answer.AnswerLine.text.Goals as goal

pub push_str-requires : goal.push_str-requires
push_str-requires c = search rules

pub unreachable-requires : goal.unreachable-requires
unreachable-requires c = c.in-Err.ensures.cases.0 (IsUtf8-from_is_utf8 _ c.as_bytes.ensures.text)
