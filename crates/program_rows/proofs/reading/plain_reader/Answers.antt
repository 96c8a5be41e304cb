use Rattle.std.proofs.Common.{◌∙◌, inr}
use Rattle.program_rows.proofs.reading.plain_reader.Goals as goal

pub returns : goal.returns
returns g c =
    let made = c.from_reader.ensures in
    let bare = c.has_headers.ensures in
    let loose = c.flexible.ensures in
    record {
      plain = record {
        marks = (rw (loose, bare) at made.config) ∙ c.new.ensures.config;
        untrimmed = (rw (loose, bare) at made.trim) ∙ c.new.ensures.trim;
        flexible = rw loose at made.flexible;
        ready = inr (inr (rw (loose, bare) at made.has_headers, made.headers));
      };
      start = made.state;
      text = rw c.new-2.ensures.source at made.source;
    }
