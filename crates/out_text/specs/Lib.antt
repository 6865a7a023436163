-- A text that grows in lent bytes. What is found where:
--   Text         the text, and bytes put at its end
--   Growing      one call after another, and a text that fits
--   Grows        what a call promises that is lent a text
--   StillToPut   what a loop has still to put
pub mod Text
pub mod Growing
pub mod Grows
pub mod StillToPut
