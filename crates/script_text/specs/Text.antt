-- The text of transcripts, passed on.
pub use Rattle.transcript_text.specs.Text.{text_of, stop_text, transcript_text}
