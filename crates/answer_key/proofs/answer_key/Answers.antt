-- `answer_key::answer_key` meets its contract: by whether the file is refused and an element is open, what is stored is a key of the file.
use mathlib.Core.Path.{refl}
use Rattle.answer_key.proofs.Texts.{put_refused}
use Rattle.answer_key.proofs.Keys.{key_stored, file_refused, question_read, none_by}
use Rattle.answer_key.proofs.answer_key.Goals as goal
use Rattle.answer_key.proofs.answer_key.Goals.{in-Err, in-Ok+then-is_open, in-Ok+else-is_open}

pub put_verdict-requires : goal.put_verdict-requires
put_verdict-requires c =
    record { read = (c.args.file.now, c.in-Ok.ensures.accepted); closed = none_by _ c.if-is_open.ensures.1 }

pub returns : goal.returns
returns c =
    let chunk = c.in-Some.ensures.cases in
    elim c.match-read.branch [
      | in-Err w ↦
          rw (w.buffer-is, w.output-is) (key_stored chunk (record {
            text = _;
            is_key = file_refused c.args.file.now w.in-Err.ensures.refused;
            put = put_refused _ w.put_refusal-output.ensures.text w.put_refusal-output.ensures.output;
          }))
      | in-Ok+then-is_open w ↦
          rw (w.buffer-is, w.output-is) (key_stored chunk (record {
            text = _;
            is_key = question_read c.args.file.now w.in-Ok.ensures.accepted (w.if-is_open.ensures.0 refl);
            put = w.put_question.ensures _ w.in-Ok.ensures.accepted;
          }))
      | in-Ok+else-is_open w ↦
          rw (w.buffer-is, w.output-is) (key_stored chunk (w.put_verdict.ensures _ w.in-Ok.ensures.accepted))
    ]
